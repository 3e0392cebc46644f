-- The line, its set, the queue, one after the other; the miss table stays.
use Rattle.words.proofs.General.{arith, refl, ◌∙◌}
use Rattle.access.proofs.PlanTests.{write_needs}
use Rattle.access.proofs.Changes.{set_room}
use Rattle.access.proofs.Telling.{acts_fit, queue_room, acts_leave}
use Rattle.access.proofs.writes.act_write.Goals as goal

pub mark_set-requires : goal.mark_set-requires
mark_set-requires c = set_room _ _ _ _ _ c.requires.acts.acts.met c.args.g.laid c.take_line.auto.words

pub queue_back-requires : goal.queue_back-requires
queue_back-requires c =
    let l = c.take_line.auto in
    let n = c.take_line.new in
    queue_room _ _ _ _ _ c.requires.acts.acts c.args.g.laid n.longs c.mark_set.new.words n.marks l.longs (c.mark_set.auto.words ∙ l.words) l.marks
    (write_needs c.args.o.access c.args.o.decision c.requires.writes refl)

pub tell_write-requires : goal.tell_write-requires
tell_write-requires c =
    let f = acts_fit _ _ _ _ _ c.requires.acts.acts c.args.g.laid in
    (c.requires.writes, omega (arith, c.requires.acts.acts.met.below))

pub returns : goal.returns
returns c =
    acts_leave c.args.g.laid c.take_line.ensures c.mark_set.ensures refl c.tell_write.ensures (c.queue_back.ensures ∙ rw c.requires.writes)
