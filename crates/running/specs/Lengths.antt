-- How long the slices have to be that a stream's own settings ask for: 0 where its first record holds no settings in range.
use Rattle.std.specs.Prelude.{ℕ, ◌≡◌, List, length, Ok, Err, Option, Some}
use Rattle.words.specs.Words.{pick}
use Rattle.model.specs.Range.{in_range}
use Rattle.model.specs.Layout.{longs_length, words_length, marks_length}
use Rattle.model.specs.Lent.{Lent}
use Rattle.model.specs.declared.Settings.{Settings}
use Rattle.model.specs.declared.Stop.{Stop}
use Rattle.model.specs.declared.Stop.TheVariants.{SliceLength, NoRoom}
use Rattle.running.specs.declared.Lengths.{Lengths}
use Rattle.running.specs.Begin.{Opening, first_record}

abbrev pub no_lengths : Lengths
no_lengths = record { longs = 0; words = 0; marks = 0 }

unfoldable pub lengths_of : Settings → Lengths
lengths_of S = pick (in_range S) record { longs = longs_length S; words = words_length S; marks = marks_length S } no_lengths

abbrev pub lengths_asked : Opening → Lengths
lengths_asked (Ok (S, next)) = lengths_of S
lengths_asked (Err n) = no_lengths

abbrev pub lengths_for : List ℕ → Lengths
lengths_for s = lengths_asked (first_record s)

-- the slices are so long
pub record Long (L : Lent) (n : Lengths) : Type 0 where
  pub longs : length L.longs ≡ n.longs
  pub words : length L.words ≡ n.words
  pub marks : length L.marks ≡ n.marks

-- a stop that a caller meets who lends slices so long and takes the events out before their room ends: neither 2 nor 16
pub record Final (n : Option Stop) : Type 0 where
  pub fitting : n ≡ Some SliceLength → ⊥
  pub roomy : n ≡ Some NoRoom → ⊥
