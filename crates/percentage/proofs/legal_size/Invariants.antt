-- `percentage::legal_size` meets its contract. The invariant: no number of ways that was passed divides the lines and leaves a number of sets. Assumes nothing.
use Rattle.words.proofs.General.{ℕ, ◌≤◌, ◌<◌}
use Rattle.percentage.proofs.Legal.{Split}
use Rattle.percentage.proofs.legal_size.Given as goal

abbrev pub invariant-loop-ways : goal.invariant-loop-ways
invariant-loop-ways l = (w : ℕ) → w < l.ways → 1 ≤ w → Split l.lines w → ⊥
