-- A line of which one sector changes, and the dirty count.
use Rattle.std.specs.Prelude.{Bool, ℕ, ◌+◌, ◌-◌, ◌≤◌, List, [], ◌∷◌, get_or, set}
use Rattle.words.specs.Words.{one}
use Rattle.words.specs.Regions.{put}
use Rattle.model.specs.Lent.{sectors_at}
use Rattle.model.specs.declared.Settings.{Settings}
use Rattle.model.specs.declared.Sector.{Sector}
use Rattle.layout.specs.declared.Layout.{Layout}
use Rattle.layout.specs.Sectors.{StoredBack}
use Rattle.tables.specs.Raw.{dirty_at}

-- the dirty count is no more than there can be lines, and counts line l if it is dirty
abbrev pub CountFits : Layout → ℕ → List ℕ → List ℕ → Type 0
CountFits at l words marks = (get_or words at.dirty 0 ≤ 1024) × (one (dirty_at marks l) ≤ get_or words at.dirty 0)

-- `words` when line l becomes dirty or not
abbrev pub words_counted : Layout → ℕ → Bool → List ℕ → List ℕ → List ℕ
words_counted at l is words marks = put words at.dirty ((get_or words at.dirty 0 + one is - one (dirty_at marks l)) ∷ [])

-- the line is counted, then its four sectors are stored back with sector k changed
abbrev pub Changed : Settings → Layout → ℕ → ℕ → Sector → Bool → List ℕ → List ℕ → List ℕ → List ℕ → Type 0
Changed S at l k x is words marks words' marks' =
    StoredBack at l (set (sectors_at S (words_counted at l is words marks) marks l) k x) (words_counted at l is words marks) marks words' marks'
