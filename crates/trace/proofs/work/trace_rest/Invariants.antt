-- Each turn reads, or is the last; what is claimed of the input holds after each.
use Rattle.model.proofs.Terms.{lent, SoundSlices}
use Rattle.input.specs.Buffers.{turns_left}
use Rattle.streaming.specs.Works.{goes_next}
use Rattle.streaming.specs.Halts.{Claims}
use Rattle.trace.proofs.work.trace_rest.Given as goal

abbrev pub invariant-loop-events : goal.invariant-loop-events
invariant-loop-events l = SoundSlices l.g.settings (lent l.longs l.words l.marks) × Claims l.w.run.next l.w.run.stop l.w.run.have

abbrev pub decreases-loop-events : goal.decreases-loop-events
decreases-loop-events l = turns_left (goes_next l.w.run.next) l.w.run.left
