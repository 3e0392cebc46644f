-- The turns of a loop that reads with a count of the bytes that may still come.
use Rattle.words.proofs.General.{ℕ, ◌<◌, ◌≤◌, arith, ◌≡◌, refl, Bool, true, false, List, length}
use Rattle.std.specs.Prelude.{Result, Ok}
use Rattle.input.specs.declared.NoMore.{NoMore}
use Rattle.input.specs.declared.Waiting.{Waiting}
use Rattle.input.specs.Buffers.{Grown, turns_left}

module _ {l l₁ : List ℕ} {have left : ℕ} {r : Result Waiting NoMore} (g : Grown l have left r l₁) where
  pub grown_inside : {w : Waiting} → r ≡ Ok w → w.have ≤ length l
  grown_inside q = (rw q at g.grows).1

  -- a turn that read, with m bytes left to come
  pub turns_after : {w : Waiting} {m : ℕ} → r ≡ Ok w → m ≡ w.left → (goes : Bool) → turns_left goes m ≤ left
  turns_after q e true = let h = rw q at g.grows in omega arith
  turns_after q e false = omega arith

  pub turns_fall : {w : Waiting} → r ≡ Ok w → (goes : Bool) → turns_left goes w.left ≤ left
  turns_fall q goes = turns_after q refl goes

pub turns_less : (goes : Bool) (left n : ℕ) → goes ≡ true → n ≤ left → n < turns_left goes left
turns_less goes left n q h = rw q (omega arith)

-- the last turn
pub turns_none : (goes : Bool) (left n : ℕ) → goes ≡ false → turns_left goes left ≤ n
turns_none goes left n q = rw q (omega arith)
