-- What the code reads at a place of the layout, as the numbers by place.
use Rattle.words.proofs.General.{ℕ, ◌+◌, ◌≡◌, List, get_or}

pub read_from : {at from : ℕ} → at ≡ from → (l : List ℕ) (i : ℕ) → get_or l (at + i) 0 ≡ get_or l (from + i) 0
read_from e l i = rw e
