-- After i turns the array has the first i numbers of the region, then zeros.
use Rattle.words.proofs.General.{◌≤◌, region, Copying}
use Rattle.tables.proofs.copy_out.Given as goal

abbrev pub invariant-loop-i : goal.invariant-loop-i
invariant-loop-i l = (l.i ≤ l.n) × Copying 8 (region l.words l.at l.n) l.out l.i
