-- Runs of characters: what a loop that walks one knows at each turn, and where a run ends.
use Rattle.words.proofs.General.{ℕ, ◌+◌, ◌-◌, ◌≤◌, ◌<◌, max, lt_or_ge, le-leb, lt-leb, add-zero, add-one, arith, ◌≡◌, sym, ⊎_elim, Bool, true, false, List, [], ◌∷◌, length}
use Rattle.words.proofs.General.{drop, get_or, drop_of_length-le, length-drop, drop-cons, take-nil, flag}
use Rattle.text.specs.Words.{passing_count, past, in_word, word_end, word_at, part_of}

module _ (p : ℕ → Bool) where
  pub run_le : (s : List ℕ) → passing_count p s ≤ length s
  unfolding passing_count
  run_le [] = omega arith
  run_le (c ∷ s) = let h = run_le s in ⊎_elim (λ q. rw q (omega arith)) (λ q. rw q (omega arith)) (flag (p c))

  module _ (s : List ℕ) (i : ℕ) where
    pub past-le : i ≤ length s → past p s i ≤ length s
    past-le h = omega (arith, run_le (drop i s), length-drop i s)

    pub past-on : i < length s → p (get_or s i 0) ≡ true → past p s i ≡ past p s (i + 1)
    unfolding passing_count
    past-on h q = rw (drop-cons s i 0 h, q, add-one i) (omega arith)

    pub past_off : i < length s → p (get_or s i 0) ≡ false → i ≡ past p s i
    unfolding passing_count
    past_off h q = rw (drop-cons s i 0 h, q) (sym (add-zero i))

    pub past_end : length s ≤ i → i ≡ past p s i
    unfolding passing_count
    past_end h = rw (drop_of_length-le s h) (sym (add-zero i))

  -- a run from `at` that goes on at i, behind all characters
  pub past_done : (s : List ℕ) (at i : ℕ) → past p s at ≡ past p s i → length s ≤ i → (at ≤ length s → i ≤ length s) → max at (length s) ≡ past p s at
  past_done s at i e h le =
      ⊎_elim
      (λ (k : length s < at). let z = past_end s at (omega arith) in omega arith)
      (λ (k : at ≤ length s). let z = past_end s i h in let l = le k in omega arith)
      (lt_or_ge (length s) at)

-- ---- which word

pub word_cut : (s : List ℕ) (at : ℕ) {e : ℕ} → e ≡ word_end s at → part_of s at e ≡ word_at s at
unfolding part_of passing_count
word_cut s at {e} q =
    ⊎_elim
    (λ (h : length s < at). let n : drop at s ≡ [] = drop_of_length-le s {i = at} (omega arith) in rw (le-leb at e (omega arith), lt-leb e (length s) (omega arith), n, take-nil))
    (λ (h : at ≤ length s).
    let l : e ≤ length s = rw q (past-le in_word s at h) in
    let k : e - at ≡ passing_count in_word (drop at s) = omega arith in
    rw (le-leb at e (omega arith), le-leb e (length s) l, k))
    (lt_or_ge (length s) at)
