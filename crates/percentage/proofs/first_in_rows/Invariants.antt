-- `percentage::first_in_rows` meets its contract. The invariant: what is left from the dirty count on is what was left from the first. Assumes nothing.
use Rattle.words.proofs.General.{◌≡◌}
use Rattle.percentage.specs.Differences.{rows_left}
use Rattle.percentage.proofs.first_in_rows.Given as goal

abbrev pub invariant-loop-dirty : goal.invariant-loop-dirty
invariant-loop-dirty l = rows_left l.lines l.from ≡ rows_left l.lines l.dirty
