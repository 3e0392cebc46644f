-- `comparing::group_end` meets its contract: what is left of the log has the end.
use Rattle.words.proofs.General.{◌-◌, length}
use Rattle.comparing.proofs.Walks.{Ends}
use Rattle.comparing.proofs.group_end.Given as goal

abbrev pub invariant-loop-end : goal.invariant-loop-end
invariant-loop-end l = Ends l.log l.at l.end

abbrev pub decreases-loop-end : goal.decreases-loop-end
decreases-loop-end l = length l.log - l.end
