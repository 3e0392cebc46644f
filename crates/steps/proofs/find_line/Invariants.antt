-- The line that has the block is not passed.
use Rattle.words.proofs.General.{ℕ, ◌+◌, ◌≤◌, ◌<◌, ◌≡◌, true}
use Rattle.tables.specs.Raw.{holds_at}
use Rattle.steps.proofs.find_line.Given as goal

abbrev pub invariant-loop-l : goal.invariant-loop-l
invariant-loop-l l = (k : ℕ) × (l.l ≤ k) × (k < l.base + l.ways) × (holds_at l.longs l.marks l.block.0 k ≡ true)
