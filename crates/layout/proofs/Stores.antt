-- Stores one by one, as numbers that are put in their place.
use Rattle.words.proofs.General.{ℕ, ◌<◌, arith, ◌≡◌, false, List, [], ◌∷◌, length, set, put, sets_put}
use Rattle.model.specs.declared.Status.TheVariants.{Invalid}
use Rattle.model.specs.declared.Sector.{Sector}

pub one-put : (l : List ℕ) (i v : ℕ) → i < length l → set l i v ≡ put l i (v ∷ [])
one-put l i v h = sets_put l i (v ∷ []) (omega arith)

-- what the code reads past the end of an array of sectors
abbrev pub none : Sector
none = record { status = Invalid; mask = 0; readable = false }
