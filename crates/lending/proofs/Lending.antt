-- Another number of settings is out of range; slices of one number and of two, once they are set.
use Rattle.words.proofs.General.{ℕ, arith, ◌≡◌, refl, sym, ap, ◌∙◌, Bool, false, not, ◌||◌, List, [], ◌∷◌, length, set, ltb, not_either, leb_not}
use Rattle.model.proofs.Terms.{in_range}
use Rattle.lending.specs.Lending.{may_lend, settings_from}

-- ---- another number of settings is out of range, so every call refuses it

pub other_number_out_of_range : (l : List ℕ) → may_lend (length l) ≡ false → in_range (settings_from l) ≡ false
unfolding settings_from in_range
other_number_out_of_range l h = rw h

-- fewer than six numbers, or more than seven
pub may_lend_lem : (n : ℕ) {b : Bool} → (ltb n 6 || ltb 7 n) ≡ b → may_lend n ≡ not b
may_lend_lem n e = rw (leb_not 6 n, leb_not n 7) (sym (not_either (ltb n 6) (ltb 7 n))) ∙ ap not e

-- ---- slices of one number and of two

pub one_set : (k : List ℕ) (n : ℕ) → length k ≡ 1 → set k 0 n ≡ n ∷ []
one_set [] n h = absurd (omega arith)
one_set (x ∷ []) n h = refl
one_set (x ∷ y ∷ k) n h = absurd (omega arith)

pub two_set : (k : List ℕ) (m n : ℕ) → length k ≡ 2 → set (set k 0 m) 1 n ≡ m ∷ n ∷ []
two_set [] m n h = absurd (omega arith)
two_set (x ∷ []) m n h = absurd (omega arith)
two_set (x ∷ y ∷ []) m n h = refl
two_set (x ∷ y ∷ z ∷ k) m n h = absurd (omega arith)
