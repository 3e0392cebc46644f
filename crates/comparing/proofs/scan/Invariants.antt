-- `comparing::scan` meets its contract: what is left of the log decides.
use Rattle.words.proofs.General.{◌-◌, length}
use Rattle.comparing.proofs.Scans.{Scans}
use Rattle.comparing.proofs.scan.Given as goal

abbrev pub invariant-loop-at : goal.invariant-loop-at
invariant-loop-at l = Scans l.log l.at

abbrev pub decreases-loop-at : goal.decreases-loop-at
decreases-loop-at l = length l.log - l.at
