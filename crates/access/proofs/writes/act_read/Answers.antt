-- The line, its set, the miss table, the queue, one after the other; each call keeps the slices' lengths.
use Rattle.words.proofs.General.{arith, refl, ◌∙◌}
use Rattle.access.proofs.PlanTests.{read_needs}
use Rattle.access.proofs.Changes.{set_room}
use Rattle.access.proofs.Telling.{acts_fit, miss_room, queue_room, alone-read, acts_leave}
use Rattle.access.proofs.writes.act_read.Goals as goal

pub mark_set-requires : goal.mark_set-requires
mark_set-requires c = set_room _ _ _ _ _ c.requires.acts.acts.met c.args.g.laid c.read_line.auto.words

pub write_misses-requires : goal.write_misses-requires
write_misses-requires c =
    let k = c.read_line.auto in
    miss_room _ _ _ _ _ c.requires.acts.acts c.args.g.laid _ _ _ k.longs (c.mark_set.auto.words ∙ k.words) k.marks

pub queue_read-requires : goal.queue_read-requires
queue_read-requires c =
    let k = c.write_misses.auto in
    let l = c.read_line.auto in
    let n = c.write_misses.new in (
      alone-read _ _ _ _ _ c.requires.acts.acts c.args.g.laid c.requires.reads,
      queue_room _ _ _ _ _ c.requires.acts.acts c.args.g.laid n.longs n.words n.marks (k.longs ∙ l.longs) (k.words ∙ c.mark_set.auto.words ∙ l.words) (k.marks ∙ l.marks)
          (read_needs c.args.o.access c.args.o.decision c.requires.reads refl),
    )

pub tell_read-requires : goal.tell_read-requires
tell_read-requires c =
    let f = acts_fit _ _ _ _ _ c.requires.acts.acts c.args.g.laid in
    (alone-read _ _ _ _ _ c.requires.acts.acts c.args.g.laid c.requires.reads, omega (arith, c.requires.acts.acts.met.below))

pub returns : goal.returns
returns c =
    acts_leave c.args.g.laid c.read_line.ensures c.mark_set.ensures
    c.write_misses.ensures
    c.tell_read.ensures c.queue_read.ensures
