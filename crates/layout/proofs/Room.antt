-- Where the cycles at which lines were taken lie, and the trees: facts set aside in `LaysOut` and `Sized`, asked for here.
use Rattle.words.proofs.General.{ℕ, ◌+◌, ◌≤◌, ◌<◌, arith, List, length}
use Rattle.model.proofs.Terms.{lines_of, Sized, told}
use Rattle.model.specs.declared.Settings.{Settings}
use Rattle.layout.specs.declared.Layout.{Layout}
use Rattle.layout.specs.Layout.{LaysOut, words_most}
use Rattle.model.proofs.Fits.{power_most}

words_small : {S : Settings} {longs words marks : List ℕ} → Sized S longs words marks → length words ≤ words_most
words_small {S} f = let long = told f.words_long in omega (arith, f.lines, f.tickets, f.queue, power_most S.sets f.power)

-- place i of the words from `from` on is inside, and its number does not wrap
pub record WordRoom (from : ℕ) (words : List ℕ) (i : ℕ) : Type 0 where
  pub inside : from + i < length words
  pub small : length words ≤ words_most

module _ {S : Settings} {at : Layout} {longs words marks : List ℕ} (p : LaysOut S at) (f : Sized S longs words marks) where
  pub taken-room : (l : ℕ) → l < lines_of S → WordRoom at.taken words l
  taken-room l h = let from = told p.taken in let long = told f.words_long in record { inside = omega arith; small = words_small f }

  pub tree_room : (i : ℕ) → i < S.sets → WordRoom at.trees words i
  tree_room i h = let from = told p.trees in let long = told f.words_long in record { inside = omega arith; small = words_small f }
