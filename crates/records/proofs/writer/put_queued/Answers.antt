-- The invariant: the entries before this one are stored.
use Rattle.words.proofs.General.{◌+◌, arith, ◌≡◌, refl, ap, ◌∙◌, List, map, length}
use Rattle.model.proofs.Terms.{queued_event, log_bytes}
use Rattle.model.specs.declared.Event.{Event}
use Rattle.records.specs.Parts.{queued_told}
use Rattle.records.proofs.Log.{queued_start, queued_all, queued_fewer, queued_longer, queued_turn}
use Rattle.records.proofs.writer.put_queued.Goals as goal

pub loop-x-init : goal.loop-x-init
loop-x-init c = let a = c.args in (refl, queued_start a.queued.now a.out.now a.at)

pub write-i-requires : goal.write-i-requires
write-i-requires c =
    let v = c.loop-x in
    let xs = c.args.queued.now in
    let b = queued_fewer (v.x-index + 1) (length xs) xs (omega arith) in
    let e : length (log_bytes (queued_told (length xs) xs)) ≡ length (log_bytes (map queued_event xs)) =
    ap (λ (es : List Event). length (log_bytes es)) (queued_all xs (length xs) (omega arith)) in
    let n = queued_longer xs _ v.x-index (omega arith) c.queued_event.ensures in
    omega (arith, v.invariant.1.next)

pub loop-x-preserved : goal.loop-x-preserved
loop-x-preserved c =
    let v = c.loop-x in
    (c.write-i.auto.out ∙ v.invariant.0, queued_turn c.args.queued.now _ v.x-index (omega arith) c.queued_event.ensures v.invariant.1 c.write-i.ensures)

pub returns : goal.returns
returns c = rw (queued_all c.args.queued.now c.loop-x.x-index (omega arith)) at c.loop-x.invariant.1
