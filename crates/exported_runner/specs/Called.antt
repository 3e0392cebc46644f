-- What a run called from C leaves: its return value, the event buffer, the counts and the slices.
use Rattle.std.specs.Prelude.{◌≡◌, ℕ, List, [], ◌∷◌, ◌++◌, length, drop, eqb}
use Rattle.words.specs.Words.{pick}
use Rattle.model.specs.Numbers.{stop_number}
use Rattle.model.specs.Lent.{Lent}
use Rattle.model.specs.Runner.{RunResult}

-- the bytes consumed and written go to a slice of two numbers; with another length nothing is run, and 2 is returned
pub record RunCalled (o : RunResult Lent) (L : Lent) (e k : List ℕ) (r : ℕ) (f j : List ℕ) (M : Lent) : Type 0 where
  pub stop : r ≡ pick (eqb (length k) 2) (stop_number o.stop) 2
  pub events : f ≡ pick (eqb (length k) 2) (o.events ++ drop (length o.events) e) e
  pub counts : j ≡ pick (eqb (length k) 2) (o.consumed ∷ length o.events ∷ []) k
  pub left : M ≡ pick (eqb (length k) 2) o.tables L
