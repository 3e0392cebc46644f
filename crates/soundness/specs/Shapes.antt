-- Conditions 2 to 6 of sound tables in two parts: what they ask of a sector's status and mark alone, and what of its mask. Nothing here is
-- document 01's.
use Rattle.std.specs.Prelude.{ℕ, Bool, not, ◌&&◌, ◌||◌, List, eqb, leb}
use Rattle.std.specs.Bool.{beq}
use Rattle.words.specs.Words.{imp}
use Rattle.model.specs.Sound.{all_ones}
use Rattle.model.specs.Lent.{status_at, mask_at, readable_at}
use Rattle.model.specs.declared.Settings.{Settings}

abbrev pub marks_shape : Settings → List ℕ → ℕ → Bool
marks_shape S marks i = leb (status_at marks i) 3 && leb (readable_at S marks i) 1 && imp (eqb (readable_at S marks i) 0) (eqb (status_at marks i) 3)

abbrev pub mask_shape : Settings → List ℕ → List ℕ → ℕ → Bool
mask_shape S words marks i =
    (eqb (status_at marks i) 1 || beq (not (eqb (mask_at S words i) 0)) (eqb (status_at marks i) 3))
    && imp (eqb (readable_at S marks i) 0) (not (eqb (mask_at S words i) all_ones))
