-- Settings with a range: what the loop over them knows at each turn.
use Rattle.words.proofs.General.{ℕ, suc, ◌+◌, ◌<◌, ◌≤◌, add-one, ◌≡◌, sym, ◌∙◌, Bool, true, false, List, ◌∷◌, map, length, length-map, drop, get_or, drop_of_length-le, drop-cons, within, List·getD-map}
use Rattle.wording.specs.Settings.{range_words, outside_words}
use Rattle.wording.specs.Shown.{range_of}
use Rattle.wording.specs.declared.settings.Ranged.{Ranged}

module _ (xs : List Ranged) (none : Ranged) (other : List (List ℕ)) (i : ℕ) where
  module _ (h : i < length xs) where
    split : drop i (map range_of xs) ≡ range_of (get_or xs i none) ∷ drop (suc i) (map range_of xs)
    split = rw (drop-cons (map range_of xs) i (range_of none) (rw length-map h), List·getD-map range_of xs i none)

    module _ {b : Bool} (t : b ≡ within (get_or xs i none).least (get_or xs i none).most (get_or xs i none).number) where
      pub ranged-on : b ≡ true → outside_words (drop i (map range_of xs)) other ≡ outside_words (drop (i + 1) (map range_of xs)) other
      unfolding outside_words
      ranged-on q = rw (split, sym t ∙ q, add-one i)

      pub ranged-here : b ≡ false → outside_words (drop i (map range_of xs)) other ≡ range_words (range_of (get_or xs i none))
      unfolding outside_words
      ranged-here q = rw (split, sym t ∙ q)

pub ranged_none : (xs : List Ranged) (other : List (List ℕ)) (i : ℕ) → length xs ≤ i → outside_words (drop i (map range_of xs)) other ≡ other
unfolding outside_words
ranged_none xs other i h = rw (drop_of_length-le (map range_of xs) {i = i} (rw length-map h))
