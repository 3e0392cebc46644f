-- The first of some places that has a number: what a search among the places of a table finds.
use Rattle.std.specs.Prelude.{◌≡◌, ℕ, ◌+◌, ◌≤◌, ◌<◌, List, get_or}

-- r is the first of the n places from `at` that has the number x, or n if none has it
pub record First (l : List ℕ) (at n x r : ℕ) : Type 0 where
  pub most : r ≤ n
  pub before : (k : ℕ) → k < r → get_or l (at + k) 0 ≡ x → ⊥
  pub there : r < n → get_or l (at + r) 0 ≡ x
