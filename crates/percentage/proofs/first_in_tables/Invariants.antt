-- `percentage::first_in_tables` meets its contract. The invariant: what is left from the lines on is what was left from the first. Assumes nothing.
use Rattle.words.proofs.General.{◌≡◌}
use Rattle.percentage.specs.Differences.{tables_left}
use Rattle.percentage.proofs.first_in_tables.Given as goal

abbrev pub invariant-loop-lines : goal.invariant-loop-lines
invariant-loop-lines l = tables_left l.from ≡ tables_left l.lines
