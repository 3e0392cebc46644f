-- Laws of the numbers below n: a loop over them, one that leaves at the first that fails, one that leaves at the first that passes, one that counts.
use mathlib.Core.Path.{◌≡◌, refl, sym, ◌∙◌}
use mathlib.Core.Logic.{◌⊎◌, inl, inr, ⊎_elim}
use mathlib.Core.Bool.{Bool, true, false, not}
use Prim.Native.Nat.{ℕ, zero, suc, ◌+◌, ◌≤◌, ◌<◌}
use native.Mathlib.Nat.{not-suc-le-zero, le_of_suc-le-suc, eq-or-lt_of_le}
use native.Mathlib.Numerals.{add-one}
use native.Mathlib.Omega.{arith}
use lib.Dec.{eqb, ltb, leb}
use borrow.Author.Tests.{eqb-true, eq-eqb, ltb-true, ltb-false, lt-leb, le-leb, lt-ltb, le-ltb}
use Rattle.words.specs.Words.{every, some, count_below}
use Rattle.words.proofs.Flags.{and_1, and_2, and_i, or_cases, or_1, or_2, not_yes, no-not, no-yes, clash, iff, flag}

pub lt_or_ge : (a b : ℕ) → (a < b) ⊎ (b ≤ a)
lt_or_ge a b = ⊎_elim (λ t. inl (ltb-true a b t)) (λ t. inr (ltb-false a b t)) (flag (ltb a b))

pub leb_not : (m n : ℕ) → leb m n ≡ not (ltb n m)
leb_not m n = ⊎_elim (λ h. rw (lt-leb m n h, lt-ltb n m h)) (λ h. rw (le-leb m n h, le-ltb n m h)) (lt_or_ge n m)

pub eqb_swap : (a b : ℕ) → eqb a b ≡ eqb b a
eqb_swap a b = iff (λ t. eq-eqb b a (sym (eqb-true a b t))) (λ t. eq-eqb a b (sym (eqb-true b a t)))

pub by_suc : (P : ℕ → Type 0) → P 0 → ((n : ℕ) → P (suc n)) → (n : ℕ) → P n
by_suc P z s zero = z
by_suc P z s (suc n) = s n

pub below_four : (P : ℕ → Type 0) → P 0 → P 1 → P 2 → P 3 → (k : ℕ) → k < 4 → P k
below_four P a b c d zero h = a
below_four P a b c d (suc zero) h = b
below_four P a b c d (suc (suc zero)) h = c
below_four P a b c d (suc (suc (suc zero))) h = d
below_four P a b c d (suc (suc (suc (suc k)))) h = absurd (omega arith)

-- equal, if neither may be below the other
pub squeeze : (a b : ℕ) → (a < b → ⊥) → (b < a → ⊥) → a ≡ b
squeeze a b f g = ⊎_elim (λ h. absurd (f h)) (λ h. ⊎_elim (λ k. absurd (g k)) (λ k. omega arith) (lt_or_ge b a)) (lt_or_ge a b)

pub last_or_below : (n i : ℕ) → i < suc n → (i ≡ n) ⊎ (i < n)
last_or_below n i h = eq-or-lt_of_le (le_of_suc-le-suc h)

module _ (p : ℕ → Bool) where
  -- ---- every

  pub every_at : (n i : ℕ) → every n p ≡ true → i < n → p i ≡ true
  every_at zero i e h = absurd (not-suc-le-zero h)
  every_at (suc n) i e h = ⊎_elim (λ q. rw q (and_2 (every n p) (p n) e)) (λ l. every_at n i (and_1 (every n p) (p n) e) l) (last_or_below n i h)

  pub every_i : (n : ℕ) → ((i : ℕ) → i < n → p i ≡ true) → every n p ≡ true
  every_i zero f = refl
  every_i (suc n) f = and_i (every_i n (λ i h. f i (omega arith))) (f n (omega arith))

  -- the loop's invariant: all before i passed
  abbrev pub Passed : ℕ → ℕ → Type 0
  Passed n i = (i ≤ n) × (every i p ≡ true)

  pub passed_stop : (n i : ℕ) {b : Bool} → i < n → b ≡ p i → not b ≡ true → false ≡ every n p
  passed_stop n i h e t = sym (no-yes (λ z. clash (every_at n i z h) (sym e ∙ not_yes t)))

  pub passed_more : (n i : ℕ) {b : Bool} → i < n → b ≡ p i → not b ≡ false → Passed n i → Passed n (i + 1)
  passed_more n i h e t w = (omega arith, rw add-one (and_i w.1 (sym e ∙ no-not t)))

  pub passed_end : (n i : ℕ) → n ≤ i → Passed n i → true ≡ every n p
  passed_end n i h w = let e : n ≡ i = omega arith in rw e (sym w.1)

  -- the same of a loop that leaves at the first fault
  pub fault_stop : (n i : ℕ) {f : Bool} → i < n → not f ≡ p i → f ≡ true → false ≡ every n p
  fault_stop n i h e t = passed_stop n i h e (rw t)

  pub fault_none : (n i : ℕ) {f : Bool} → i < n → not f ≡ p i → f ≡ false → Passed n i → Passed n (i + 1)
  fault_none n i h e t w = passed_more n i h e (rw t) w

  -- ---- some

  pub some_i : (n i : ℕ) → i < n → p i ≡ true → some n p ≡ true
  some_i zero i h e = absurd (not-suc-le-zero h)
  some_i (suc n) i h e = ⊎_elim (λ q. or_2 (some n p) (p n) (rw q at e)) (λ l. or_1 (some n p) (p n) (some_i n i l e)) (last_or_below n i h)

  pub some_at : (n : ℕ) → some n p ≡ true → (i : ℕ) × (i < n) × (p i ≡ true)
  some_at zero e = clash e refl
  some_at (suc n) e = ⊎_elim (λ h. let (i, l, q) = some_at n h in (i, omega arith, q)) (λ h. (n, omega arith, h)) (or_cases (some n p) (p n) e)

  -- the loop's invariant: none before i passed
  abbrev pub Sought : ℕ → ℕ → Type 0
  Sought n i = (i ≤ n) × (some i p ≡ false)

  pub sought_start : (n : ℕ) → Sought n 0
  sought_start n = (omega arith, refl)

  pub sought_stop : (n i : ℕ) {b : Bool} → i < n → b ≡ p i → b ≡ true → true ≡ some n p
  sought_stop n i h e t = sym (some_i n i h (sym e ∙ t))

  pub sought_more : (n i : ℕ) {b : Bool} → i < n → b ≡ p i → b ≡ false → Sought n i → Sought n (i + 1)
  sought_more n i h e t w = (omega arith, rw (add-one, some, w.1, ← e, t))

  pub sought_end : (n i : ℕ) → n ≤ i → Sought n i → false ≡ some n p
  sought_end n i h w = let e : n ≡ i = omega arith in rw e (sym w.1)

  -- ---- count

  pub count_most : (n : ℕ) → count_below n p ≤ n
  count_most zero = omega arith
  count_most (suc n) = let h = count_most n in ⊎_elim (λ q. rw q (omega arith)) (λ q. rw q (omega arith)) (flag (p n))

  -- where none passes from number k on
  pub count_short : (n k : ℕ) → k ≤ n → ((j : ℕ) → j < n → k ≤ j → p j ≡ false) → count_below n p ≡ count_below k p
  count_short zero k h g = let e : k ≡ 0 = omega arith in rw e
  count_short (suc n) k h g =
      ⊎_elim (λ q. rw q)
      (λ l. let z : count_below n p ≡ count_below k p = count_short n k (omega arith) (λ j a b. g j (omega arith) b) in
      rw (z, g n (omega arith) (omega arith)) (omega arith))
      (eq-or-lt_of_le h)

  -- the loop's invariant: so many before i passed
  abbrev pub Counted : ℕ → ℕ → ℕ → Type 0
  Counted n i k = (i ≤ n) × (k ≡ count_below i p) × (k ≤ i)

  pub counted_start : (n : ℕ) → Counted n 0 0
  counted_start n = (omega arith, refl, omega arith)

  pub counted_yes : (n i k j : ℕ) {b : Bool} → i < n → b ≡ p i → b ≡ true → j ≡ k + 1 → Counted n i k → Counted n (i + 1) j
  counted_yes n i k j h e t q w = (omega arith, rw (q, add-one i, ← e, t, w.1), omega arith)

  pub counted_no : (n i k j : ℕ) {b : Bool} → i < n → b ≡ p i → b ≡ false → j ≡ k → Counted n i k → Counted n (i + 1) j
  counted_no n i k j h e t q w = (omega arith, rw (q, add-one i, ← e, t, w.1) (omega arith), omega arith)

  pub counted_end : (n i k : ℕ) → n ≤ i → Counted n i k → k ≡ count_below n p
  counted_end n i k h w = let e : n ≡ i = omega arith in rw e w.1

-- ---- two tests that agree below n

module _ (p q : ℕ → Bool) where
  pub every-same : (n : ℕ) → ((i : ℕ) → i < n → p i ≡ q i) → every n p ≡ every n q
  every-same zero f = refl
  every-same (suc n) f = rw (every-same n (λ i h. f i (omega arith)), f n (omega arith))

  pub some_same : (n : ℕ) → ((i : ℕ) → i < n → p i ≡ q i) → some n p ≡ some n q
  some_same zero f = refl
  some_same (suc n) f = rw (some_same n (λ i h. f i (omega arith)), f n (omega arith))

  pub count_same : (n : ℕ) → ((i : ℕ) → i < n → p i ≡ q i) → count_below n p ≡ count_below n q
  count_same zero f = refl
  count_same (suc n) f = rw (count_same n (λ i h. f i (omega arith)), f n (omega arith))
