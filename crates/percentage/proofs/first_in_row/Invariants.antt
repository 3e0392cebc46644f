-- `percentage::first_in_row` meets its contract. The invariant: what is left from P on is what was left from the first P. Assumes nothing.
use Rattle.words.proofs.General.{◌≡◌}
use Rattle.percentage.specs.Differences.{differences_from}
use Rattle.percentage.proofs.first_in_row.Given as goal

abbrev pub invariant-loop-percent : goal.invariant-loop-percent
invariant-loop-percent l = differences_from l.dirty l.lines l.from ≡ differences_from l.dirty l.lines l.percent
