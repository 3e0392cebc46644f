-- Each turn goes on behind an event, so that the bytes that are left fall.
use Rattle.std.proofs.Common.{◌-◌, length}
use Rattle.wait.proofs.page.put_events.Given as goal

abbrev pub decreases-loop-event : goal.decreases-loop-event
decreases-loop-event l = length l.s - l.place
