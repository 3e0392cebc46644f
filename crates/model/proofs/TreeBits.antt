-- Laws of the bits of a number: one bit read, one bit put, and a test of the low bits.
use Rattle.words.proofs.General.{ℕ, zero, suc, ◌+◌, ◌*◌, ◌/◌, ◌%◌, ◌^◌, ◌≤◌, ◌<◌, max, pow-suc, mod-one, div-one, zero-div, arith, ◌≡◌, refl, sym, ap, ◌∙◌, ◌⊎◌, inl, inr, ⊎_elim}
use Rattle.words.proofs.General.{Bool, true, false, not, ◌&&◌, or-false, eqb, ltb, ne_eqb, eqb-true, eqb-false, lt-ltb, le-ltb, ltb-true, ltb-false, some, or_2, flag, some_same}
use lib.Bits.{bit_or, or_step, or_zero_r}
use lib.Pow.{pow_pos, shr-shr, mod-pow-add}
use lib.Arith.{lt_of_le-ne}
use Rattle.model.proofs.Terms.{tree_bit, with_bit, is_in, some_from}

pub bit_zero : (t : ℕ) → tree_bit t 0 ≡ t % 2
unfolding tree_bit
bit_zero t = ap (λ (x : ℕ). x % 2) (div-one t)

pub bit_suc : (t i : ℕ) → tree_bit t (suc i) ≡ tree_bit (t / 2) i
unfolding tree_bit
bit_suc t i =
    let e : 1 + i ≡ suc i = omega arith in
    ap (λ (x : ℕ). t / 2 ^ x % 2) (sym e) ∙ ap (λ (x : ℕ). x % 2) (sym (shr-shr t 1 i))

pub bit_two : (t i : ℕ) → tree_bit t i < 2
unfolding tree_bit
bit_two t i = omega arith

pub halves : {h : ℕ} → h < 2 → (h ≡ 0) ⊎ (h ≡ 1)
halves {h = zero} l = inl refl
halves {h = suc zero} l = inr refl
halves {h = suc (suc h)} l = absurd (omega arith)

-- ---- one bit put

pub put_same : (t i h : ℕ) → h < 2 → tree_bit (with_bit t i h) i ≡ h
unfolding with_bit
put_same t zero h l = bit_zero (t / 2 * 2 + h) ∙ omega arith
put_same t (suc i) h l =
    let e : (with_bit (t / 2) i h * 2 + t % 2) / 2 ≡ with_bit (t / 2) i h = omega arith in
    bit_suc _ i ∙ ap (λ (x : ℕ). tree_bit x i) e ∙ put_same (t / 2) i h l

pub put_other : (t i j h : ℕ) → h < 2 → (i ≡ j → ⊥) → tree_bit (with_bit t i h) j ≡ tree_bit t j
unfolding with_bit
put_other t zero zero h l f = absurd (f refl)
put_other t zero (suc j) h l f =
    let e : (t / 2 * 2 + h) / 2 ≡ t / 2 = omega arith in
    bit_suc _ j ∙ ap (λ (x : ℕ). tree_bit x j) e ∙ sym (bit_suc t j)
put_other t (suc i) zero h l f = bit_zero _ ∙ omega arith ∙ sym (bit_zero t)
put_other t (suc i) (suc j) h l f =
    let e : (with_bit (t / 2) i h * 2 + t % 2) / 2 ≡ with_bit (t / 2) i h = omega arith in
    bit_suc _ j ∙ ap (λ (x : ℕ). tree_bit x j) e ∙ put_other (t / 2) i j h l (λ q. f (ap suc q)) ∙ sym (bit_suc t j)

pub put_below : (k t i h : ℕ) → h < 2 → t < 2 ^ k → i < k → with_bit t i h < 2 ^ k
unfolding with_bit
put_below zero t i h l b c = absurd (omega arith)
put_below (suc k) t zero h l b c = let e = pow-suc 2 k in omega arith
put_below (suc k) t (suc i) h l b c =
    let r : with_bit (t / 2) i h < 2 ^ k = put_below k (t / 2) i h l (omega arith) (omega arith) in
    omega arith

-- ---- as the code does it

pub or_puts : (t i : ℕ) → bit_or t (2 ^ i) ≡ with_bit t i 1
unfolding with_bit
or_puts t zero =
    let m : max (t % 2) 1 ≡ 1 = omega arith in
    let z = or_zero_r (t / 2) in
    or_step t 1 ∙ rw (z, m)
or_puts t (suc i) =
    let q : 2 ^ suc i / 2 ≡ 2 ^ i = omega arith in
    let r : 2 ^ suc i % 2 ≡ 0 = omega arith in
    let m : max (t % 2) 0 ≡ t % 2 = omega arith in
    or_step t (2 ^ suc i) ∙ rw (q, r, m, or_puts (t / 2) i)

pub put_less : (t i : ℕ) → with_bit t i 1 ≡ with_bit t i 0 + 2 ^ i
unfolding with_bit
put_less t zero = omega arith
put_less t (suc i) = let e = pow-suc 2 i in omega (arith, put_less (t / 2) i)

-- ---- a test of the low bits

some_step : (x w r : ℕ) → some w (is_in x) ≡ not (eqb r 0) → x % 2 ^ suc w ≡ tree_bit x w * 2 ^ w + r → (tree_bit x w ≡ 0) ⊎ (tree_bit x w ≡ 1)
    → some (suc w) (is_in x) ≡ not (eqb (x % 2 ^ suc w) 0)
some_step x w r ih e (inl z) =
    let s : x % 2 ^ suc w ≡ r = rw z at e ∙ omega arith in
    rw (s, z) (or-false (some w (is_in x)) ∙ ih)
some_step x w r ih e (inr z) =
    let s : x % 2 ^ suc w ≡ 2 ^ w + r = rw z at e ∙ omega arith in
    let f : 2 ^ w + r ≡ 0 → ⊥ = λ q. omega (arith, pow_pos w) in
    let g : not (eqb (2 ^ w + r) 0) ≡ true = ap not (ne_eqb _ _ f) in
    let u : is_in x w ≡ true = rw z in
    or_2 (some w (is_in x)) (is_in x w) u ∙ sym (rw s g)

pub some_low : (x w : ℕ) → some w (is_in x) ≡ not (eqb (x % 2 ^ w) 0)
unfolding tree_bit
some_low x zero = rw (mod-one x)
some_low x (suc w) =
    let c : 1 + w ≡ suc w = omega arith in
    some_step x w (x % 2 ^ w) (some_low x w) (ap (λ (k : ℕ). x % 2 ^ k) (sym c) ∙ mod-pow-add x 1 w) (halves (bit_two x w))

-- the bits of a mask from `first` on
pub some-shifted : (m first w : ℕ) → some_from (is_in m) first w ≡ not (eqb (m / 2 ^ first % 2 ^ w) 0)
unfolding tree_bit
some-shifted m first w =
    some_same (λ i. is_in m (first + i)) (is_in (m / 2 ^ first)) w
    (λ i l. ap (λ (x : ℕ). eqb (x % 2) 1) (sym (shr-shr m first i)))
    ∙ some_low (m / 2 ^ first) w

past : {v w : ℕ} → w ≤ v → (w ≡ v → ⊥) → w + 1 ≤ v
past l d = omega (arith, lt_of_le-ne l d)

-- ---- a mask built way by way: m has the ways below w that pass

module _ (p : ℕ → Bool) where
  abbrev pub Masked : ℕ → ℕ → Type 0
  Masked w m = (v : ℕ) → is_in m v ≡ (ltb v w && p v)

  pub masked_start : Masked 0 0
  unfolding tree_bit
  masked_start v = let z : 0 / 2 ^ v ≡ 0 = zero-div (2 ^ v) in rw (z, le-ltb v 0 (omega arith))

  masked_step : (w m : ℕ) → Masked w m → (n : ℕ) → is_in n w ≡ p w → ((v : ℕ) → (w ≡ v → ⊥) → is_in n v ≡ is_in m v) → Masked (w + 1) n
  masked_step w m f n here else v =
      ⊎_elim (λ e. let q = eqb-true w v e in let l = lt-ltb v (w + 1) (omega arith) in ap (is_in n) (sym q) ∙ here ∙ rw l (ap p q))
      (λ e. ⊎_elim (λ (d : ltb v w ≡ true). let l = lt-ltb v (w + 1) (omega (arith, ltb-true v w d)) in else v (eqb-false w v e) ∙ f v ∙ rw (d, l))
      (λ (d : ltb v w ≡ false). let l = le-ltb v (w + 1) (past (ltb-false v w d) (eqb-false w v e)) in else v (eqb-false w v e) ∙ f v ∙ rw (d, l)) (flag (ltb v w))) (flag (eqb w v))

  pub masked_yes : (w m : ℕ) {b : Bool} {n : ℕ} → b ≡ p w → b ≡ true → n ≡ with_bit m w 1 → Masked w m → Masked (w + 1) n
  masked_yes w m {n = n} is yes' e f =
      masked_step w m f n (rw (e, put_same m w 1 (omega arith)) (sym yes' ∙ is)) (λ v d. rw (e, put_other m w v 1 (omega arith) d))

  pub masked_no : (w m : ℕ) {b : Bool} {n : ℕ} → b ≡ p w → b ≡ false → n ≡ m → Masked w m → Masked (w + 1) n
  masked_no w m {n = n} is none e f =
      masked_step w m f n (rw e (f w ∙ rw (le-ltb w w (omega arith)) (sym none ∙ is))) (λ v d. rw e)

  pub masked_end : (n w m : ℕ) → n ≤ w → Masked w m → (v : ℕ) → v < n → is_in m v ≡ p v
  masked_end n w m l f v d = f v ∙ rw (lt-ltb v w (omega arith))
