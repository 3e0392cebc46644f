-- A line's leaves on the slices of tables: what is read of a line, its four sectors, and what stands after they are stored.
use Rattle.words.proofs.General.{ℕ, zero, suc, ◌+◌, ◌*◌, ◌≤◌, ◌<◌, arith, ◌≡◌, refl, ap, ◌∙◌, List, [], ◌∷◌, map, length, get_or, set, length-map, eqb, pad_to, packed, joined, put}
use Rattle.words.proofs.General.{offset_in, four_whole, get_or-map_in, length_places, pad_to_get, field_put, field_get, places_same}
use Rattle.model.proofs.Terms.{status_number, status_of, lines_of, Line, Tables, empty, fresh, with_lines, words_from, marks_from, mask_region, readable_region, bit, sector_at, sectors_at}
use Rattle.model.proofs.Terms.{long_blocks, word_blocks, mark_blocks, tag_of, cycle_of, taken_of, masks_of, statuses_of, readables_of, told}
use Rattle.model.specs.declared.Settings.{Settings}
use Rattle.model.specs.declared.Sector.{Sector}
use Rattle.model.proofs.Answers.{status_of_number, status_below}
use Rattle.layout.specs.declared.Layout.{Layout}
use Rattle.layout.specs.Layout.{LaysOut}
use Rattle.layout.specs.Sectors.{Plain, statuses, masks, readables}
use Rattle.layout.proofs.ByBlocks.{ByBlocks}
use Rattle.encoding.proofs.EncodeIsSound.{bit_low}
use Rattle.encoding.proofs.NumbersAreTables.{flag_of_bit}

-- four numbers are their own places
pub fit_four : (l : List ℕ) → length l ≡ 4 → l ≡ pad_to 4 l
unfolding pad_to
fit_four l e = rw (← four_whole 0 l e)

sector_of : (x : Sector) {s m r : ℕ} → s ≡ status_number x.status → m ≡ x.mask → r ≡ bit x.readable → record { status = status_of s; mask = m; readable = eqb r 1 } ≡ x
sector_of x e f g = rw (e, f, g, status_of_number x.status, flag_of_bit x.readable)

-- four sectors, read off the columns that they give
sectors_of : (xs : List Sector) → length xs ≡ 4 → (S : Settings) (words marks : List ℕ) (l : ℕ)
    → ((k q : ℕ) → k < 4 → q ≡ 4 * l + k → get_or marks q 0 ≡ get_or (pad_to 4 (statuses xs)) k 0)
    → ((k q : ℕ) → k < 4 → q ≡ words_from S mask_region + (4 * l + k) → get_or words q 0 ≡ get_or (pad_to 4 (masks xs)) k 0)
    → ((k q : ℕ) → k < 4 → q ≡ marks_from S readable_region + (4 * l + k) → get_or marks q 0 ≡ get_or (pad_to 4 (readables xs)) k 0)
    → sectors_at S words marks l ≡ xs
sectors_of xs e S words marks l f g h =
    let of : (n : Sector → ℕ) (k : ℕ) → k < 4 → get_or (pad_to 4 (map n xs)) k 0 ≡ n (get_or xs k empty) = λ n k b. pad_to_get 4 (map n xs) k b ∙ get_or-map_in n xs empty 0 k (omega arith) in
    let read : (k q : ℕ) → k < 4 → q ≡ 4 * l + k → sector_at S words marks q ≡ get_or xs k empty =
    λ k q b p. sector_of (get_or xs k empty) (f k q b p ∙ of (λ s. status_number s.status) k b)
    (g k _ b (ap (λ (i : ℕ). words_from S mask_region + i) p) ∙ of (λ s. s.mask) k b) (h k _ b (ap (λ (i : ℕ). marks_from S readable_region + i) p) ∙ of (λ s. bit s.readable) k b) in
    rw (read 0 (4 * l) (omega arith) (omega arith), read 1 (4 * l + 1) (omega arith) refl, read 2 (4 * l + 2) (omega arith) refl, read 3 (4 * l + 3) (omega arith) refl) (four_whole empty xs e)

-- a number of a sector that is at most m, and at most m where there is none
most_at : (f : Sector → ℕ) (m : ℕ) → ((x : Sector) → f x ≤ m) → (xs : List Sector) (j : ℕ) → j < 4 → get_or (pad_to 4 (map f xs)) j 0 ≤ m
most_at f m h xs j b = rw (pad_to_get 4 (map f xs) j b) (go xs j)
  where
    go : (ys : List Sector) (i : ℕ) → get_or (map f ys) i 0 ≤ m
    go [] i = omega arith
    go (y ∷ ys) zero = h y
    go (y ∷ ys) (suc i) = go ys i

-- a line last used at cycle k, and one taken at cycle k
abbrev pub used_as : ℕ → Line → Line
used_as k y = record { tag = y.tag; cycle = k; taken = y.taken; sectors = y.sectors }

abbrev pub taken_as : ℕ → Line → Line
taken_as k y = record { tag = y.tag; cycle = y.cycle; taken = k; sectors = y.sectors }

module _ (S : Settings) (t : Tables) {longs words marks : List ℕ} (h : ByBlocks S longs words marks t) {at : Layout} (p : LaysOut S at) (sized : length t.lines ≡ lines_of S)
    (l : ℕ) (below : l < length t.lines) where
  few : length t.lines ≤ lines_of S
  few = omega arith

  -- ---- what is read

  pub tag_at : get_or longs l 0 ≡ (get_or t.lines l fresh).tag
  unfolding pad_to
  tag_at = field_get tag_of 1 (lines_of S) t.lines (long_blocks S t) 0 l {i = l} h.as_longs refl (omega arith) (omega arith) below few fresh 0 (omega arith) (omega arith)

  pub status_at_lem : (j q : ℕ) → j < 4 → q ≡ 4 * l + j → get_or marks q 0 ≡ get_or (pad_to 4 (statuses_of (get_or t.lines l fresh))) j 0
  status_at_lem j q b f =
      let start : 4 * l ≡ offset_in (mark_blocks S t) 0 + 4 * l = omega arith in
      field_get statuses_of 4 (lines_of S) t.lines (mark_blocks S t) 0 l {i = 4 * l} h.as_marks refl start (omega arith) below few fresh j b f

  readable_at_lem : (j q : ℕ) → j < 4 → q ≡ at.readables + 4 * l + j → get_or marks q 0 ≡ get_or (pad_to 4 (readables_of (get_or t.lines l fresh))) j 0
  readable_at_lem j q b f =
      let start : at.readables + 4 * l ≡ offset_in (mark_blocks S t) 1 + 4 * l = simp length_places (omega arith) in
      field_get readables_of 4 (lines_of S) t.lines (mark_blocks S t) 1 l {i = at.readables + 4 * l} h.as_marks refl start (omega arith) below few fresh j b f

  pub lifted : length (get_or t.lines l fresh).sectors ≡ 4 → sectors_at S words marks l ≡ (get_or t.lines l fresh).sectors
  lifted four =
      let ws : at.masks + 4 * l ≡ offset_in (word_blocks S t) 2 + 4 * l = simp length_places (omega arith) in
      sectors_of (get_or t.lines l fresh).sectors four S words marks l status_at_lem
      (λ j q b f. field_get masks_of 4 (lines_of S) t.lines (word_blocks S t) 2 l {i = at.masks + 4 * l} h.as_words refl ws (omega arith) below few fresh j b (omega arith))
      (λ j q b f. readable_at_lem j q b (omega arith))

  -- its bytes are those of sectors
  pub plain_at : Plain at l marks
  plain_at j b = (
    rw (status_at_lem j (4 * l + j) b refl) (most_at (λ s. status_number s.status) 3 (λ s. omega (arith, status_below s.status)) (get_or t.lines l fresh).sectors j b),
    rw (readable_at_lem j _ b refl) (most_at (λ s. bit s.readable) 1 (λ s. bit_low s.readable) (get_or t.lines l fresh).sectors j b),
  )

  -- ---- what is written: the line becomes y

  module _ (y : Line) (four : length y.sectors ≡ 4) where
    column : (f : Sector → ℕ) → map f y.sectors ≡ pad_to 4 (map f y.sectors)
    column f = fit_four (map f y.sectors) (length-map y.sectors f ∙ four)

    marks-put : {marks' : List ℕ} → marks' ≡ put (put marks (4 * l) (statuses y.sectors)) (at.readables + 4 * l) (readables y.sectors)
        → marks' ≡ joined (mark_blocks S (with_lines (set t.lines l y) t))
    marks-put c =
        let first : put marks (4 * l) (statuses y.sectors) ≡ joined (set (mark_blocks S t) 0 (packed statuses_of 4 (lines_of S) (set t.lines l y))) =
        field_put statuses_of 4 (lines_of S) t.lines (mark_blocks S t) 0 l {i = 4 * l} h.as_marks refl (omega arith) (omega arith) below few y (column (λ s. status_number s.status)) refl in
        field_put readables_of 4 (lines_of S) t.lines (set (mark_blocks S t) 0 (packed statuses_of 4 (lines_of S) (set t.lines l y))) 1 l first refl (simp length_places (omega arith)) (omega arith) below few y (column (λ s. bit s.readable)) c

    -- its sectors alone
    pub store-stands : y.tag ≡ (get_or t.lines l fresh).tag → y.cycle ≡ (get_or t.lines l fresh).cycle
        → y.taken ≡ (get_or t.lines l fresh).taken → {words' marks' : List ℕ}
        → (words' ≡ put words (at.masks + 4 * l) (masks y.sectors))
        × (marks' ≡ put (put marks (4 * l) (statuses y.sectors)) (at.readables + 4 * l) (readables y.sectors))
        → ByBlocks S longs words' marks' (with_lines (set t.lines l y) t)
    store-stands e f k c = record {
      as_longs = rw (places_same tag_of 1 (lines_of S) l t.lines fresh y (ap (λ (n : ℕ). n ∷ []) e)) h.as_longs;
      as_words = rw (places_same cycle_of 1 (lines_of S) l t.lines fresh y (ap (λ (n : ℕ). n ∷ []) f), places_same taken_of 1 (lines_of S) l t.lines fresh y (ap (λ (n : ℕ). n ∷ []) k))
          (field_put masks_of 4 (lines_of S) t.lines (word_blocks S t) 2 l h.as_words refl (simp length_places (omega arith)) (omega arith) below few y (column (λ s. s.mask)) c.0);
      as_marks = marks-put c.1;
    }

    -- all of it but the cycle at which it was taken
    pub line_stands : y.taken ≡ (get_or t.lines l fresh).taken → {longs' words' marks' : List ℕ}
        → (longs' ≡ put longs l (y.tag ∷ []))
        × (words' ≡ put (put words (1 + l) (y.cycle ∷ [])) (at.masks + 4 * l) (masks y.sectors))
        × (marks' ≡ put (put marks (4 * l) (statuses y.sectors)) (at.readables + 4 * l) (readables y.sectors))
        → ByBlocks S longs' words' marks' (with_lines (set t.lines l y) t)
    unfolding pad_to
    line_stands k c =
        let first : put words (1 + l) (y.cycle ∷ []) ≡ joined (set (word_blocks S t) 1 (packed cycle_of 1 (lines_of S) (set t.lines l y))) =
        field_put cycle_of 1 (lines_of S) t.lines (word_blocks S t) 1 l {i = 1 + l} h.as_words refl (omega arith) (omega arith) below few y refl refl in
        record {
          as_longs = field_put tag_of 1 (lines_of S) t.lines (long_blocks S t) 0 l h.as_longs refl (omega arith) (omega arith) below few y refl c.0;
          as_words = rw (places_same taken_of 1 (lines_of S) l t.lines fresh y (ap (λ (n : ℕ). n ∷ []) k))
              (field_put masks_of 4 (lines_of S) t.lines (set (word_blocks S t) 1 (packed cycle_of 1 (lines_of S) (set t.lines l y))) 2 l first refl (simp length_places (omega arith)) (omega arith) below few y (column (λ s. s.mask)) c.1);
          as_marks = marks-put c.2;
        }

  -- the cycle at which it was taken alone
  pub taken_stands : (k : ℕ) {words' : List ℕ} → words' ≡ put words (at.taken + l) (k ∷ [])
      → ByBlocks S longs words' marks (with_lines (set t.lines l (taken_as k (get_or t.lines l fresh))) t)
  unfolding pad_to
  taken_stands k c =
      let from = told p.taken in
      let y : Line = taken_as k (get_or t.lines l fresh) in
      record {
        as_longs = rw (places_same tag_of 1 (lines_of S) l t.lines fresh y refl) h.as_longs;
        as_words = rw (places_same cycle_of 1 (lines_of S) l t.lines fresh y refl, places_same masks_of 4 (lines_of S) l t.lines fresh y refl)
            (field_put taken_of 1 (lines_of S) t.lines (word_blocks S t) 6 l h.as_words refl (simp length_places (omega arith)) (omega arith) below few y refl c);
        as_marks = rw (places_same statuses_of 4 (lines_of S) l t.lines fresh y refl, places_same readables_of 4 (lines_of S) l t.lines fresh y refl) h.as_marks;
      }

  -- the cycle at which it was last used alone
  pub used_stands : (k : ℕ) {words' : List ℕ} → words' ≡ put words (1 + l) (k ∷ [])
      → ByBlocks S longs words' marks (with_lines (set t.lines l (used_as k (get_or t.lines l fresh))) t)
  unfolding pad_to
  used_stands k c =
      let y : Line = used_as k (get_or t.lines l fresh) in
      record {
        as_longs = rw (places_same tag_of 1 (lines_of S) l t.lines fresh y refl) h.as_longs;
        as_words = rw (places_same masks_of 4 (lines_of S) l t.lines fresh y refl, places_same taken_of 1 (lines_of S) l t.lines fresh y refl)
            (field_put cycle_of 1 (lines_of S) t.lines (word_blocks S t) 1 l {i = 1 + l} h.as_words refl (omega arith) (omega arith) below few y refl c);
        as_marks = rw (places_same statuses_of 4 (lines_of S) l t.lines fresh y refl, places_same readables_of 4 (lines_of S) l t.lines fresh y refl) h.as_marks;
      }
