-- Each turn goes past an event.
use Rattle.std.proofs.Common.{◌-◌, length}
use Rattle.trace.proofs.page.put_events.Given as goal

abbrev pub decreases-loop-event : goal.decreases-loop-event
decreases-loop-event l = length l.s - l.place
