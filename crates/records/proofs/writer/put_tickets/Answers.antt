-- The invariant: the tickets before this one are stored, five bytes each.
use Rattle.words.proofs.General.{arith, ◌≡◌, refl, ◌∙◌, length}
use Rattle.model.proofs.Terms.{bytes_of}
use Rattle.records.proofs.Log.{tickets_all, tickets_start, tickets_turn}
use Rattle.records.proofs.writer.put_tickets.Goals as goal

pub loop-t-init : goal.loop-t-init
loop-t-init c = let a = c.args in (refl, tickets_start a.tickets.now a.out.now a.at)

pub loop-t-preserved : goal.loop-t-preserved
unfolding bytes_of
loop-t-preserved c =
    let v = c.loop-t in
    (c.put_numbered-i.auto.out ∙ v.invariant.0, tickets_turn c.args.tickets.now v.t-index (omega arith) v.invariant.1 c.put_numbered-i.ensures)

pub returns : goal.returns
returns c =
    let ts = c.args.tickets.now in
    let e : c.loop-t.t-index ≡ length ts = omega arith in
    rw (tickets_all ts c.loop-t.t-index (omega arith), e) at c.loop-t.invariant.1
