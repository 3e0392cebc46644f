-- Each turn goes past a record.
use Rattle.std.proofs.Common.{◌-◌, length}
use Rattle.show.proofs.Page.show_records.Given as goal

abbrev pub decreases-loop-next : goal.decreases-loop-next
decreases-loop-next l = length l.s - l.at
