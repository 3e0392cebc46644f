-- The three slices as the blocks of the tables: what the laws of the leaves go by, from one call of a leaf to the next.
use Rattle.words.proofs.General.{ℕ, ◌≡◌, ap, List, get_or, joined}
use Rattle.model.proofs.Terms.{Tables, Lent, lent, long_blocks, word_blocks, mark_blocks, encode, Encodes}
use Rattle.model.specs.declared.Settings.{Settings}

pub record ByBlocks (S : Settings) (longs words marks : List ℕ) (t : Tables) : Type 0 where
  pub as_longs : longs ≡ joined (long_blocks S t)
  pub as_words : words ≡ joined (word_blocks S t)
  pub as_marks : marks ≡ joined (mark_blocks S t)

pub is_stands : {S : Settings} {longs words marks : List ℕ} {t : Tables} → Encodes S (lent longs words marks) t → ByBlocks S longs words marks t
unfolding encode
is_stands i = record {
  as_longs = ap (λ (L : Lent). L.longs) i.encoded;
  as_words = ap (λ (L : Lent). L.words) i.encoded;
  as_marks = ap (λ (L : Lent). L.marks) i.encoded;
}

pub stands_encode : {S : Settings} {longs words marks : List ℕ} {t : Tables} → ByBlocks S longs words marks t → lent longs words marks ≡ encode S t
unfolding encode
stands_encode h = rw (h.as_longs, h.as_words, h.as_marks)

-- the current cycle
pub now_stands : {S : Settings} {longs words marks : List ℕ} {t : Tables} → ByBlocks S longs words marks t → get_or words 0 0 ≡ t.now
now_stands h = ap (λ (l : List ℕ). get_or l 0 0) h.as_words
