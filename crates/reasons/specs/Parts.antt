-- What the parts of the code ask and promise, on slices that are the encoding of sound tables. Nothing here is document 01's.
use Rattle.std.specs.Prelude.{◌≡◌, ℕ, ◌+◌, ◌/◌, ◌%◌, ◌≤◌, ◌<◌, List, get_or, eqb, ltb}
use Rattle.words.specs.Words.{pick}
use Rattle.model.specs.Tables.{Tables}
use Rattle.model.specs.Lent.{Lent}
use Rattle.model.specs.Inner.{Encodes}
use Rattle.model.specs.declared.Settings.{Settings}
use Rattle.layout.specs.declared.Layout.{Layout}
use Rattle.reasons.specs.declared.Reason.{Reason}
use Rattle.reasons.specs.declared.Reason.TheVariants.{Entry, Nothing}

-- r is the first of the n places from `at` that has an address of the set, or n if none has
pub record FirstInSet (l : List ℕ) (at n sets set r : ℕ) : Type 0 where
  pub most : r ≤ n
  pub before : (k : ℕ) → k < r → get_or l (at + k) 0 / 128 % sets ≡ set → ⊥
  pub there : r < n → get_or l (at + r) 0 / 128 % sets ≡ set

-- the numbers of entry e, where it is one of n
abbrev pub entry_shown : Layout → List ℕ → List ℕ → ℕ → ℕ → Reason
entry_shown at longs marks e n =
    pick (ltb e n) (Entry (get_or longs (at.misses + e) 0) (eqb (get_or marks (at.sent + e) 0) 1) (get_or marks (at.counts + e) 0)) Nothing

-- r is what the definition gives of the tables in the slices L
pub record Gives (S : Settings) (reason : Tables → Reason) (L : Lent) (r : Reason) : Type 0 where
  pub on : (t : Tables) → Encodes S L t → r ≡ reason t
