-- The dirty count and a set's tree in the slices: where each is read, and the tables that stand when it is written; four sectors of which one is MODIFIED.
use Rattle.words.proofs.General.{ℕ, ◌+◌, ◌≤◌, ◌<◌, add-zero, arith, ◌≡◌, sym, ap, ◌∙◌, refl, Bool, ◌||◌, List, [], ◌∷◌, length, get_or, set, count, pad_to, put, offset_in, or_four}
use Rattle.words.proofs.General.{four_whole, count-length, block_get, block_put, length_places, field_put, field_get}
use Rattle.model.proofs.Terms.{Tables, with_dirty_count, is_modified, dirty, with_trees, dirty_count_region, word_blocks, lent, tree_of, Encodes, told}
use Rattle.model.specs.declared.Settings.{Settings}
use Rattle.model.specs.declared.Sector.{Sector}
use Rattle.encoding.proofs.Slices.{word_sizes_lem, begins}
use Rattle.encoding.proofs.Bridge.{is_fit}
use Rattle.layout.specs.declared.Layout.{Layout}
use Rattle.layout.specs.Layout.{LaysOut}
use Rattle.layout.specs.Sectors.{some_modified}
use Rattle.layout.proofs.ByBlocks.{ByBlocks, is_stands}
use Rattle.model.proofs.SoundFacts.{parts, lines_are, dirty_count_is}

module _ (S : Settings) (t : Tables) {longs words marks : List ℕ} (h : ByBlocks S longs words marks t) {at : Layout} (p : LaysOut S at) where
  here : at.dirty ≡ offset_in (word_blocks S t) dirty_count_region + 0
  here = p.dirty ∙ sym (begins (word_blocks S t) dirty_count_region (word_sizes_lem S t)) ∙ sym (add-zero (offset_in (word_blocks S t) dirty_count_region))

  pub dirty_count_at_lem : get_or words at.dirty 0 ≡ t.dirty_count
  dirty_count_at_lem = block_get (word_blocks S t) dirty_count_region 0 {i = at.dirty} h.as_words here (omega arith) (omega arith)

  pub dirty_count_stands : (d : ℕ) {words' : List ℕ} → words' ≡ put words at.dirty (d ∷ []) → ByBlocks S longs words' marks (with_dirty_count d t)
  unfolding put
  dirty_count_stands d e = record {
    as_longs = h.as_longs;
    as_words = e ∙ block_put (word_blocks S t) dirty_count_region 0 {i = at.dirty} h.as_words here (omega arith) (d ∷ []) (omega arith);
    as_marks = h.as_marks;
  }

-- of sound tables: the lines counted, so no more than there are
module _ (S : Settings) {longs words marks : List ℕ} (t : Tables) (is : Encodes S (lent longs words marks) t) {at : Layout} (p : LaysOut S at) where
  pub dirty_counted : get_or words at.dirty 0 ≡ count dirty t.lines
  dirty_counted = dirty_count_at_lem S t (is_stands is) p ∙ dirty_count_is S t (parts S t is.soundly)

  pub dirty_few : get_or words at.dirty 0 ≤ 1024
  dirty_few = omega (arith, dirty_counted, count-length dirty t.lines, lines_are S t (parts S t is.soundly), (is_fit S (lent longs words marks) t is).lines)

-- four tests, one after the other
pub some_modified_lem : (four : List Sector) (e : Sector) → length four ≡ 4 → {a b c d : Bool}
    → a ≡ is_modified (get_or four 0 e).status → b ≡ is_modified (get_or four 1 e).status
    → c ≡ is_modified (get_or four 2 e).status → d ≡ is_modified (get_or four 3 e).status
    → (a || b || c || d) ≡ some_modified four
some_modified_lem four o n {a} {b} {c} {d} e f g h = sym (or_four a b c d) ∙ rw (e, f, g, h) (ap some_modified (four_whole o four n))

-- ---- a set's tree

module _ (S : Settings) (t : Tables) {longs words marks : List ℕ} (h : ByBlocks S longs words marks t) {at : Layout} (p : LaysOut S at) (sized : length t.trees ≡ S.sets)
    (i : ℕ) (below : i < S.sets) where
  pub tree_stands : (v : ℕ) {words' : List ℕ} → words' ≡ put words (at.trees + i) (v ∷ []) → ByBlocks S longs words' marks (with_trees (set t.trees i v) t)
  unfolding pad_to
  tree_stands v c =
      let from = told p.trees in
      record {
        as_longs = h.as_longs;
        as_words = field_put tree_of 1 S.sets t.trees (word_blocks S t) 7 i h.as_words refl (simp length_places (omega arith)) (omega arith) (omega arith) (omega arith) v refl c;
        as_marks = h.as_marks;
      }

  pub tree_at_lem : get_or words (at.trees + i) 0 ≡ get_or t.trees i 0
  unfolding pad_to
  tree_at_lem =
      let from = told p.trees in
      field_get tree_of 1 S.sets t.trees (word_blocks S t) 7 i {i = at.trees + i} h.as_words refl (simp length_places (omega arith)) (omega arith) (omega arith) (omega arith) 0 0 (omega arith) (omega arith)
