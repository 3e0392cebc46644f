-- The bytes before the last record: the walk to it, and what stands there.
use Rattle.words.proofs.General.{ℕ, zero, suc, ◌+◌, ◌-◌, ◌≤◌, ◌<◌, le_of_suc-le-suc, zero-add, arith, ◌≡◌, sym, ap, ◌∙◌, true, false, not, List, [], ◌∷◌, length, drop, get_or}
use Rattle.words.proofs.General.{length-drop, drop-cons, drop-drop, drop-length, ltb, not-true, not-false, lt-ltb, le-ltb, ltb-true, ltb-false, by_flag}
use Rattle.model.proofs.Terms.{is_command, length_of}
use Rattle.streaming.specs.Scopes.{before_last}
use Rattle.streaming.specs.Halts.{OneRecord}

-- ---- the walk

pub last_skips : (n : ℕ) (s : List ℕ) → n ≤ length s → before_last n s ≡ n + before_last 0 (drop n s)
unfolding before_last
last_skips zero s h = sym (zero-add _)
last_skips (suc n) [] h = absurd (omega arith)
last_skips (suc n) (b ∷ s) h = let e = last_skips n s (le_of_suc-le-suc h) in omega arith

module _ (k : ℕ) (bs : List ℕ) where
  kind_unknown : is_command k ≡ false → before_last 0 (k ∷ bs) ≡ 1 + length bs
  unfolding before_last
  kind_unknown z = rw z (omega arith)

  kind_last : is_command k ≡ true → length bs ≤ length_of k → before_last 0 (k ∷ bs) ≡ 0
  unfolding before_last
  kind_last z h = rw (z, le-ltb (length_of k) (length bs) h)

  kind_goes : is_command k ≡ true → length_of k < length bs → before_last 0 (k ∷ bs) ≡ 1 + length_of k + before_last 0 (drop (length_of k) bs)
  unfolding before_last
  kind_goes z h = let e = last_skips (length_of k) bs (omega arith) in rw (z, lt-ltb (length_of k) (length bs) h) (omega arith)

module _ (s : List ℕ) (at : ℕ) (here : at < length s) (inv : at + before_last 0 (drop at s) ≡ before_last 0 s) where
  abbrev k : ℕ
  k = get_or s at 0

  abbrev bs : List ℕ
  bs = drop (suc at) s

  split : drop at s ≡ k ∷ bs
  split = drop-cons s at 0 here

  long : length bs + (1 + at) ≡ length s
  long = let e = length-drop (suc at) s in omega arith

  pub walk_unknown : {b : _} → b ≡ is_command k → not b ≡ true → length s ≡ before_last 0 s
  walk_unknown {b} q z =
      let e : before_last 0 (drop at s) ≡ 1 + length bs = rw split (kind_unknown k bs (sym q ∙ not-true b z)) in
      omega (arith, long)

  module _ {b : _} (q : b ≡ is_command k) (z : not b ≡ false) {n : ℕ} (n-is : n ≡ length_of k) where
    command : is_command k ≡ true
    command = sym q ∙ not-false b z

    pub walk-last : length s - at ≤ 1 + n → at ≡ before_last 0 s
    walk-last h =
        let l = long in
        let e : before_last 0 (drop at s) ≡ 0 = rw split (kind_last k bs command (omega arith)) in
        omega arith

    pub walk-goes : 1 + n < length s - at → (at + (1 + n)) + before_last 0 (drop (at + (1 + n)) s) ≡ before_last 0 s
    walk-goes h =
        let l = long in
        let e : before_last 0 (drop at s) ≡ 1 + length_of k + before_last 0 (drop (length_of k) bs) = rw split (kind_goes k bs command (omega arith)) in
        let p : suc at + length_of k ≡ at + (1 + n) = omega arith in
        let d : drop (length_of k) bs ≡ drop (at + (1 + n)) s = drop-drop (length_of k) (suc at) s ∙ ap (λ (m : ℕ). drop m s) p in
        let f : before_last 0 (drop (length_of k) bs) ≡ before_last 0 (drop (at + (1 + n)) s) = ap (before_last 0) d in
        omega arith

pub walk_end : (s : List ℕ) (at : ℕ) → at ≤ length s → length s ≤ at → at + before_last 0 (drop at s) ≡ before_last 0 s → at ≡ before_last 0 s
unfolding before_last
walk_end s at h k inv =
    let p : at ≡ length s = omega arith in
    let d : drop at s ≡ [] = rw p (drop-length s) in
    let e : before_last 0 (drop at s) ≡ 0 = rw d in
    omega arith

-- ---- what stands there

-- what holds of each place at which the last record may begin, where it begins there
pub by_last : (P : ℕ → Type 0) (k : ℕ) (s : List ℕ) → (is_command k ≡ true → length_of k < length s → P (suc (before_last (length_of k) s)))
    → (is_command k ≡ true → length s ≤ length_of k → P 0) → (is_command k ≡ false → P (suc (length s))) → P (before_last 0 (k ∷ s))
unfolding before_last
by_last P k s more last unknown =
    by_flag P (is_command k) _ _ (λ c. by_flag P (ltb (length_of k) (length s)) _ _ (λ z. more c (ltb-true _ _ z)) (λ z. last c (ltb-false _ _ z))) unknown

pub last_most : (n : ℕ) (s : List ℕ) → before_last n s ≤ length s
unfolding before_last
last_most n [] = omega arith
last_most (suc n) (b ∷ s) = let h = last_most n s in omega arith
last_most zero (k ∷ s) = by_last (λ m. m ≤ suc (length s)) k s (λ c l. let h = last_most (length_of k) s in omega arith) (λ c l. omega arith) (λ c. omega arith)

pub last_least : (n : ℕ) (s : List ℕ) → n ≤ length s → n ≤ before_last n s
last_least n s h = let e = last_skips n s h in omega arith

pub last-alone : (n : ℕ) (s : List ℕ) → n ≤ length s → OneRecord (drop (before_last n s) s)
unfolding before_last
last-alone n [] h = tt
last-alone (suc n) (b ∷ s) h = last-alone n s (le_of_suc-le-suc h)
last-alone zero (k ∷ s) h =
    by_last (λ m. OneRecord (drop m (k ∷ s))) k s (λ c l. last-alone (length_of k) s (omega arith)) (λ c l. (c, l)) (λ c. rw (drop-length s) tt)
