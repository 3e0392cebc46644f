-- Bytes stored in a slice where there is room for them.
use Rattle.std.specs.Prelude.{◌≡◌, ℕ, ◌+◌, List, length}
use Rattle.std.proofs.lemmas.List.Edits.{sets}
use Rattle.words.specs.Words.{pick}
use Rattle.words.specs.Regions.{room}

-- l with bs stored from index `at`, if there is room for them
unfoldable pub stored : List ℕ → ℕ → List ℕ → List ℕ
stored l at bs = pick (room l at (length bs)) (sets l at bs) l

-- how many bytes that is
unfoldable pub stored_count : List ℕ → ℕ → List ℕ → ℕ
stored_count l at bs = pick (room l at (length bs)) (length bs) 0

-- the count and the slice after bs are stored where there is room, and nothing where there is none
pub record Stored (l : List ℕ) (at : ℕ) (bs : List ℕ) (r : ℕ) (m : List ℕ) : Type 0 where
  pub count : r ≡ stored_count l at bs
  pub slice : m ≡ stored l at bs

-- behind the check of room: the place after the n bytes bs, and the slice with them stored
pub record Laid (l : List ℕ) (at n : ℕ) (bs : List ℕ) (r : ℕ) (m : List ℕ) : Type 0 where
  pub next : r ≡ at + n
  pub slice : m ≡ sets l at bs
