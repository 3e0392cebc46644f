-- The invariant: the sizes of the events before this one are added, of at most 25 bytes each, and their numbers fit.
use Rattle.words.proofs.General.{arith, refl}
use Rattle.model.specs.RecordsOf as records
use Rattle.records.specs.Parts.{queued_told}
use Rattle.records.proofs.Encoding.{event_short}
use Rattle.records.proofs.Log.{queued_all, queued_next, queued_longer}
use Rattle.records.proofs.Reply.{fitting_append}
use Rattle.records.proofs.writer.queued_size.Goals as goal

pub loop-x-init : goal.loop-x-init
unfolding records.log_bytes
loop-x-init c = (refl, omega arith, tt)

pub overflow_add-n : goal.overflow_add-n
unfolding records.log_bytes
overflow_add-n c = let most = event_short c.queued_event.result in omega arith

pub loop-x-preserved : goal.loop-x-preserved
unfolding records.log_bytes
loop-x-preserved c =
    let v = c.loop-x in
    let xs = c.args.queued.now in
    let n = queued_longer xs _ v.x-index (omega arith) c.queued_event.ensures in
    let most = event_short c.queued_event.result in (
      omega arith,
      omega arith,
      rw (queued_next xs _ v.x-index (omega arith) c.queued_event.ensures) (fitting_append (queued_told v.x-index xs) _ v.invariant.2 (c.size-n.ensures.1, tt)),
    )

pub returns : goal.returns
returns c =
    let e = queued_all c.args.queued.now c.loop-x.x-index (omega arith) in
    (rw e at c.loop-x.invariant.0, omega arith, rw e at c.loop-x.invariant.2)
