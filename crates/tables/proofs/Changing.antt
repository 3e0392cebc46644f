-- A line of which one sector changes: the tables that then stand in the slices.
use Rattle.words.proofs.General.{ℕ, ◌+◌, ◌-◌, ◌≤◌, ◌<◌, arith, ◌≡◌, refl, ap, subst, ◌∙◌, Bool, List, [], ◌∷◌, length, get_or, set, length-set, one, put}
use Rattle.model.proofs.Terms.{lines_of, Line, Tables, dirty, fresh, with_lines, with_dirty_count, sectors_at}
use Rattle.model.specs.declared.Settings.{Settings}
use Rattle.model.specs.declared.Sector.{Sector}
use Rattle.layout.specs.declared.Layout.{Layout}
use Rattle.layout.specs.Layout.{LaysOut}
use Rattle.layout.specs.Sectors.{StoredBack}
use Rattle.layout.proofs.ByBlocks.{ByBlocks}
use Rattle.layout.proofs.Lines.{lifted, store-stands}
use Rattle.layout.proofs.DirtyCount.{dirty_count_at_lem, dirty_count_stands}
use Rattle.tables.specs.Raw.{dirty_at}
use Rattle.tables.proofs.Statuses.{dirty_of}
use Rattle.tables.specs.Changed.{Changed, words_counted}

-- the count, then the four sectors
pub counted_then : (S : Settings) (at : Layout) (l k : ℕ) (x : Sector) {was : Bool} (is : Bool) (words marks : List ℕ) {words₁ words' marks' : List ℕ} → was ≡ dirty_at marks l
    → words₁ ≡ put words at.dirty ((get_or words at.dirty 0 + one is - one was) ∷ [])
    → StoredBack at l (set (sectors_at S words₁ marks l) k x) words₁ marks words' marks' → Changed S at l k x is words marks words' marks'
counted_then S at l k x is words marks {words' = words'} {marks' = marks'} e f c =
    subst (λ (ws : List ℕ). StoredBack at l (set (sectors_at S ws marks l) k x) ws marks words' marks') (f ∙ rw e) c

-- the same sector, by another number and value that are these
pub changed_as : (S : Settings) (at : Layout) (l : ℕ) {k j : ℕ} {x y : Sector} (is : Bool) (words marks : List ℕ) {words' marks' : List ℕ} → k ≡ j → x ≡ y
    → Changed S at l k x is words marks words' marks' → Changed S at l j y is words marks words' marks'
changed_as S at l is words marks e f c = rw (← e, ← f) c

-- ---- the tables

-- a line with other sectors
abbrev pub with_sectors : List Sector → Line → Line
with_sectors xs y = record { tag = y.tag; cycle = y.cycle; taken = y.taken; sectors = xs }

module _ (S : Settings) (t : Tables) {longs words marks : List ℕ} (h : ByBlocks S longs words marks t) {at : Layout} (p : LaysOut S at) (sized : length t.lines ≡ lines_of S)
    (l : ℕ) (below : l < length t.lines) (four : length (get_or t.lines l fresh).sectors ≡ 4) (k : ℕ) (x : Sector) where
  abbrev line : Line
  line = get_or t.lines l fresh

  abbrev pub changed_line : Line
  changed_line = with_sectors (set line.sectors k x) line

  -- counted as it is then
  pub change_stands : (is : Bool) → is ≡ dirty changed_line → one (dirty line) ≤ t.dirty_count → {words' marks' : List ℕ} → Changed S at l k x is words marks words' marks'
      → ByBlocks S longs words' marks' (with_dirty_count (t.dirty_count - one (dirty line) + one (dirty changed_line)) (with_lines (set t.lines l changed_line) t))
  change_stands is e fits {words'} {marks'} c =
      let n : ℕ = t.dirty_count - one (dirty line) + one (dirty changed_line) in
      let count : get_or words at.dirty 0 + one is - one (dirty_at marks l) ≡ n =
      rw (dirty_count_at_lem S t h p, dirty_of S longs words marks l line (lifted S t h p sized l below four), e) (omega (arith, fits)) in
      let h₁ : ByBlocks S longs (words_counted at l is words marks) marks (with_dirty_count n t) =
      dirty_count_stands S t h p n (ap (λ (m : ℕ). put words at.dirty (m ∷ [])) count) in
      let them : set (sectors_at S (words_counted at l is words marks) marks l) k x ≡ changed_line.sectors =
      ap (λ (ys : List Sector). set ys k x) (lifted S (with_dirty_count n t) h₁ p sized l below four) in
      store-stands S (with_dirty_count n t) h₁ p sized l below changed_line (length-set line.sectors k x ∙ four) refl refl refl
      (subst (λ (ys : List Sector). StoredBack at l ys (words_counted at l is words marks) marks words' marks') them c)
