-- The decisions as values of the numbers in the slices. The functions below `decide` speak of these. Nothing here is document 01's.
use Rattle.std.specs.Prelude.{ℕ, ◌+◌, ◌*◌, Bool, List, [], ◌∷◌, Option, Some, None, Result, Ok, Err}
use Rattle.words.specs.Words.{pick, some}
use Rattle.model.specs.Address.{address_of, sector_index}
use Rattle.model.specs.Lent.{tag_at, mask_at, sector_at}
use Rattle.model.specs.Probe.{answer_of}
use Rattle.model.specs.declared.Settings.{Settings}
use Rattle.model.specs.declared.Access.{Access}
use Rattle.model.specs.declared.Answer.TheVariants.{Miss}
use Rattle.model.specs.declared.Refusal.{Refusal}
use Rattle.model.specs.declared.Refusal.TheVariants.{SetBusy, SetHeld}
use Rattle.probe.specs.declared.Meeting.TheVariants.{Met, Taken}
use Rattle.probe.specs.declared.Decision.{Decision}
use Rattle.tables.specs.Raw.{waiting_at, dirty_at}

-- the four masks of line l
abbrev pub masks_at : Settings → List ℕ → ℕ → List ℕ
masks_at S words l = mask_at S words (4 * l) ∷ mask_at S words (4 * l + 1) ∷ mask_at S words (4 * l + 2) ∷ mask_at S words (4 * l + 3) ∷ []

-- way w of the set whose lines begin at `base` has the block
abbrev pub on_match : Settings → List ℕ → List ℕ → ℕ → ℕ → Access → Decision
on_match S words marks base w x = record {
  meeting = Met;
  way = w;
  line = base + w;
  answer = answer_of x (sector_at S words marks (4 * (base + w) + sector_index (address_of x)));
  back = None;
}

-- it is taken over; `dirty`: its line is
abbrev pub on_miss : Settings → List ℕ → List ℕ → ℕ → ℕ → Bool → Decision
on_miss S longs words base w dirty = record {
  meeting = Taken;
  way = w;
  line = base + w;
  answer = Miss;
  back = pick dirty (Some record { block = tag_at longs (base + w); masks = masks_at S words (base + w) }) None;
}

-- no way can be taken over
abbrev pub busy_or_held : List ℕ → ℕ → ℕ → Refusal
busy_or_held marks base ways = pick (some ways (λ w. waiting_at marks (base + w))) SetBusy SetHeld

-- no way has the block; the victim, if there is one
abbrev pub taken_over : Settings → List ℕ → List ℕ → List ℕ → ℕ → ℕ → Option ℕ → Result Decision Refusal
taken_over S longs words marks base ways (Some w) = Ok (on_miss S longs words base w (dirty_at marks (base + w)))
taken_over S longs words marks base ways None = Err (busy_or_held marks base ways)
