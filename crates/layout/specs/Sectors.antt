-- Sectors in the slices: their room, the three columns of a line's four, and whether one of these is MODIFIED.
use Rattle.std.specs.Prelude.{ℕ, ◌+◌, ◌*◌, ◌≤◌, ◌<◌, Bool, List, map, ◌≡◌, length, get_or, set}
use Rattle.words.specs.Words.{any}
use Rattle.words.specs.Regions.{put}
use Rattle.model.specs.Tables.{is_modified}
use Rattle.model.specs.Numbers.{status_number}
use Rattle.model.specs.Range.{lines_of}
use Rattle.model.specs.Lent.{bit}
use Rattle.model.specs.declared.Sector.{Sector}
use Rattle.layout.specs.declared.Layout.{Layout}
use Rattle.layout.specs.declared.geometry.Geometry.{Geometry}

-- the slices have room for the sectors of all lines
abbrev pub SectorRoom : Geometry → List ℕ → List ℕ → Type 0
SectorRoom g words marks = (g.at.masks + 4 * lines_of g.settings ≤ length words) × (g.at.readables + 4 * lines_of g.settings ≤ length marks)

-- the three columns of sectors
abbrev pub statuses : List Sector → List ℕ
statuses xs = map (λ s. status_number s.status) xs

abbrev pub masks : List Sector → List ℕ
masks xs = map (λ s. s.mask) xs

abbrev pub readables : List Sector → List ℕ
readables xs = map (λ s. bit s.readable) xs

-- one of the sectors is MODIFIED
abbrev pub some_modified : List Sector → Bool
some_modified four = any (λ s. is_modified s.status) four

-- ---- line l, of which one sector changes

-- the slices have room for its sectors, the statuses before the readable marks
abbrev pub LineRoom : Layout → ℕ → List ℕ → List ℕ → Type 0
LineRoom at l words marks =
    (at.masks + 4 * l + 4 ≤ length words) × (4 * l + 4 ≤ at.readables + 4 * l) × (at.readables + 4 * l + 4 ≤ length marks)

-- its bytes are those of sectors: a status is at most 3, a readable mark at most 1
abbrev pub Plain : Layout → ℕ → List ℕ → Type 0
Plain at l marks = (j : ℕ) → j < 4 → (get_or marks (4 * l + j) 0 ≤ 3) × (get_or marks (at.readables + 4 * l + j) 0 ≤ 1)

-- four numbers stand from index w on
abbrev pub Column : List ℕ → ℕ → List ℕ → Type 0
Column l w ns = (j : ℕ) → j < 4 → get_or l (w + j) 0 ≡ get_or ns j 0

-- these four sectors stand there
abbrev pub Stand : Layout → ℕ → List Sector → List ℕ → List ℕ → Type 0
Stand at l four words marks =
    Column words (at.masks + 4 * l) (masks four) × Column marks (4 * l) (statuses four) × Column marks (at.readables + 4 * l) (readables four)

-- the slices with these four
abbrev pub StoredBack : Layout → ℕ → List Sector → List ℕ → List ℕ → List ℕ → List ℕ → Type 0
StoredBack at l four words marks words' marks' =
    (words' ≡ put words (at.masks + 4 * l) (masks four))
    × (marks' ≡ put (put marks (4 * l) (statuses four)) (at.readables + 4 * l) (readables four))

-- numbers with number k as it was
abbrev pub but_one : ℕ → List ℕ → List ℕ → List ℕ
but_one k was is = set is k (get_or was k 0)

-- the slices with these four, but for sector k, which is as it was found
abbrev pub OthersStored : Layout → ℕ → ℕ → List Sector → List Sector → List ℕ → List ℕ → List ℕ → List ℕ → Type 0
OthersStored at l k found four words marks words' marks' =
    (words' ≡ put words (at.masks + 4 * l) (but_one k (masks found) (masks four)))
    × (marks' ≡ put (put marks (4 * l) (but_one k (statuses found) (statuses four))) (at.readables + 4 * l) (but_one k (readables found) (readables four)))
