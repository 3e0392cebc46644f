-- Each turn reads, or is the last; what is claimed of the input holds after each.
use Rattle.words.proofs.General.{sym, ◌∙◌}
use Rattle.input.proofs.Counts.{turns_less}
use Rattle.streaming.specs.Works.{goes_next}
use Rattle.trace.proofs.work.trace_rest.Goals as goal

pub new-g-requires : goal.new-g-requires
new-g-requires c = c.requires.sound_slices.are.range

pub loop-events-init : goal.loop-events-init
loop-events-init c = (rw c.new-g.ensures c.requires.sound_slices, rw c.requires.next_value tt)

pub loop-events-smaller : goal.loop-events-smaller
loop-events-smaller c =
    turns_less (goes_next c.loop-events.w.run.next) c.loop-events.w.run.left _ (sym c.goes_on.ensures ∙ c.loop-events-test.true) c.turn-w.ensures.read.fewer

pub loop-events-preserved : goal.loop-events-preserved
loop-events-preserved c = (c.turn-w.ensures.held, c.turn-w.ensures.read.claims)

pub finished-requires : goal.finished-requires
finished-requires c = record { over = sym c.goes_on.ensures ∙ c.loop-events-test.false; claims = c.loop-events.invariant.1 }
