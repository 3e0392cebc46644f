-- `comparing::skip` meets its contract.
use Rattle.comparing.proofs.Sides.{Skips}
use Rattle.comparing.proofs.skip.Given as goal

abbrev pub invariant-loop-i : goal.invariant-loop-i
invariant-loop-i l = Skips l.log l.number l.at l._i
