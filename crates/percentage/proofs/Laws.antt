-- What the range test says; ours as the engine's rule, and the refusal's number; quotient, product and order of floats by the fractions that
-- they are; and that at a power of two, where nothing is rounded, the two answers are the same. Other sizes: Ties. Assumes nothing.
use Rattle.words.proofs.General.{ℕ, ◌+◌, ◌-◌, ◌*◌, ◌^◌, ◌≤◌, ◌<◌, le_trans, lt_of_lt_of_le, not-le_of_lt, mul-one, one-mul, mul_comm, mul_assoc, mul_left_comm, mul-pos}
use Rattle.words.proofs.General.{mul-mul-mul_comm, arith, ◌≡◌, refl, sym, ap, ◌∙◌, subst, ⊎_elim, Bool, true, false, ◌&&◌, ◌||◌, Bool·beq, T, leb, ltb, eqb, leb→le, lit<, lit≤}
use Rattle.words.proofs.General.{ne_eqb, le-ltb, le-leb, leb-true, flag, and_1, and_2, iff, lt_or_ge}
use lib.IntN.{ℤ}
use native.Mathlib.Decide.{dec_le}
use lib.Pow.{pow-add, pow_pos, pow_mono, pow-lt, shl_lt}
use lib.Ieee.{Float, nan, inf, fin, Format, binary32, up, down, round, div, mul, le, of_int}
use lib.Ieee.Digits.{back}
use lib.Ieee.Fits.{down_pos}
use lib.Ieee.Exact.{HasValue, round_exact}
use lib.Ieee.Order.{transfer, le_of_values}
use lib.Ieee.Scale.{round_same}
use lib.Ieee.Positive.{first_pos}
use denote.Floats.{passes, is_true}
use Rattle.model.proofs.Terms.{refusal_number, lines_of, enough_dirty}
use Rattle.model.specs.declared.Settings.{Settings}
use Rattle.percentage.specs.Percent.{as_single, percent_of, float_meets, whole_meets, percent_in_range, PercentRanged, out_of_range, share_of}

-- ---- tests
pub agreed : (p q : Bool) → Bool·beq p q ≡ true → p ≡ q
agreed true true e = refl
agreed true false e = sym e
agreed false true e = e
agreed false false e = refl

pub percent_ranged : (d l p : ℕ) → percent_in_range d l p ≡ true → PercentRanged d l p
percent_ranged d l p e = search (and_1, and_2, leb-true)

-- ---- ours is the engine's rule for every cache of these lines and this P, whatever its sets, ways and other settings
pub ours : (S : Settings) (d : ℕ) → enough_dirty S d ≡ whole_meets d (lines_of S) S.dirty
unfolding whole_meets
ours S d = ap (λ (z : ℕ). leb (S.dirty * z) (100 * d)) (sym (one-mul (lines_of S)))

pub whole_is : (d l p : ℕ) → whole_meets d l p ≡ leb (p * l) (100 * d)
unfolding whole_meets
whole_is d l p = ap (λ (z : ℕ). leb (p * z) (100 * d)) (one-mul l)

-- ---- the refusal's number
pub refused_by_1 : refusal_number out_of_range ≡ 1
refused_by_1 = refl

-- ---- two values that are not negative: their quotient and product are the fractions', rounded, and their order is the fractions'
number : (x : Float) (a c : ℕ) → HasValue x false a c → (m : ℕ) × (e : ℤ) × (x ≡ fin false m e) × (m * up e * c ≡ a * down e)
number nan a c h = absurd h
number (inf s) a c h = absurd h
number (fin s m e) a c h = (m, e, rw h.0, h.1)

pub div_at : (f : Format) (x y : Float) (a c b d : ℕ) → 0 < c → 0 < d → 0 < b → HasValue x false a c → HasValue y false b d → div f x y ≡ round f false (a * d) (c * b)
unfolding div
div_at f x y a c b d C D B hx hy =
    let (m, e, x-is, h) = number x a c hx in
    let (n, g, y-is, k) = number y b d hy in
    let E = down e in
    let G = down g in
    let M = m * up e in
    let N = n * up g in
    let N-pos : 0 < N = first_pos N d (subst (λ (z : ℕ). 0 < z) (sym k) (mul-pos B (down_pos g))) in
    let n_pos : 0 < n = first_pos n (up g) N-pos in
    let swap : a * E * (N * d) ≡ a * d * (N * E) = simp (mul_assoc, mul_comm, mul_left_comm) in
    rw (x-is, y-is)
    (rw (ne_eqb n 0 (λ e. omega arith)) (round_same f false (M * G) (N * E) (a * d) (c * b) (mul-pos N-pos (down_pos e)) (mul-pos C B)
    (mul-mul-mul_comm M G c b ∙ ap (λ (z : ℕ). z * (G * b)) h ∙ ap (λ (z : ℕ). a * E * z) (mul_comm G b ∙ sym k) ∙ swap)))

pub mul_at : (f : Format) (x y : Float) (a c b d : ℕ) → 0 < c → 0 < d → HasValue x false a c → HasValue y false b d → mul f x y ≡ round f false (a * b) (c * d)
unfolding mul
mul_at f x y a c b d C D hx hy =
    let (m, e, x-is, h) = number x a c hx in
    let (n, g, y-is, k) = number y b d hy in
    rw (x-is, y-is)
    (round_same f false (m * up e * (n * up g)) (down e * down g) (a * b) (c * d) (mul-pos (down_pos e) (down_pos g)) (mul-pos C D)
    (mul-mul-mul_comm (m * up e) (n * up g) c d ∙ ap (λ (z : ℕ). z * (n * up g * d)) h ∙ ap (λ (z : ℕ). a * down e * z) k ∙ mul-mul-mul_comm a (down e) b (down g)))

le_level : (a b : ℕ) → T (ltb a b || (eqb a b && true)) → a ≤ b
le_level a b t = ⊎_elim (λ h. absurd (rw (le-ltb a b (omega arith), ne_eqb a b (λ e. omega arith)) at t)) (λ h. h) (lt_or_ge b a)

pub values_le : (x y : Float) (a c b d : ℕ) → HasValue x false a c → HasValue y false b d → T (le x y) → a * d ≤ b * c
unfolding le
values_le x y a c b d hx hy t =
    let (m, e, x-is, h) = number x a c hx in
    let (n, g, y-is, k) = number y b d hy in
    transfer a b c d (m * up e) (n * up g) (down e) (down g) (down_pos e) (down_pos g) (sym h) (sym k) (le_level (m * up e * down g) (n * up g * down e) (rw (x-is, y-is) at t))

pub le_at : (x y : Float) (a c b d : ℕ) → 0 < c → 0 < d → HasValue x false a c → HasValue y false b d → le x y ≡ leb (a * d) (b * c)
le_at x y a c b d C D h k =
    iff (λ t. le-leb (a * d) (b * c) (values_le x y a c b d h k (passes _ t))) (λ t. is_true _ (le_of_values x y a c b d C D h k (leb→le (a * d) (b * c) (passes _ t))))

-- ---- a / 2 ^ k, for an a below 2 ^ 24, is an f32
pub exact : (a k : ℕ) → a < 2 ^ 24 → k ≤ 149 → HasValue (round binary32 false a (2 ^ k)) false a (2 ^ k)
exact a k h K =
    let room : 24 + (149 - k) ≤ 277 = omega arith in
    round_exact binary32 false a (2 ^ k) a (149 - k) (pow_pos k) h
    (lt_of_lt_of_le (shl_lt 24 (149 - k) h) (pow_mono room))
    (ap (λ (z : ℕ). a * 2 ^ z) (sym (back 149 k K)) ∙ ap (λ (z : ℕ). a * z) (pow-add 2 (149 - k) k) ∙ sym (mul_assoc a (2 ^ (149 - k)) (2 ^ k)))

pub single_value : (n : ℕ) → n < 2 ^ 24 → HasValue (as_single n) false n 1
unfolding of_int
single_value n h = exact n 0 h (lit≤ tt)

-- ---- the quotient of whole numbers is the fraction, rounded
pub quotient_is : (d l : ℕ) → 0 < l → l ≤ 1024 → d ≤ l → div binary32 (as_single d) (as_single l) ≡ round binary32 false d l
quotient_is d l L M D = rw (div_at binary32 _ _ d 1 l 1 (lit< tt) (lit< tt) L (single_value d (omega arith)) (single_value l (omega arith)), mul-one, one-mul)

-- ---- at a power of two nothing is rounded
module _ (d k p : ℕ) (K : k ≤ 10) (D : d ≤ 2 ^ k) (P : p ≤ 100) where
  small : d ≤ 1024
  small = le_trans D (pow_mono K)

  quotient : HasValue (div binary32 (as_single d) (as_single (2 ^ k))) false d (2 ^ k)
  quotient = rw (quotient_is d (2 ^ k) (pow_pos k) (pow_mono K) D) (exact d k (omega (arith, small)) (omega arith))

  percentage : HasValue (percent_of d (2 ^ k)) false (100 * d) (2 ^ k)
  unfolding percent_of
  percentage =
      rw (mul_at binary32 _ _ d (2 ^ k) 100 1 (pow_pos k) (lit< tt) quotient (single_value 100 (lit< tt)), mul_comm d 100, mul-one)
      (exact (100 * d) k (omega (arith, small)) (omega arith))

  pub agree : float_meets d (2 ^ k) p ≡ whole_meets d (2 ^ k) p
  unfolding float_meets
  agree = rw (le_at (as_single p) _ p 1 (100 * d) (2 ^ k) (lit< tt) (pow_pos k) (single_value p (omega arith)) percentage, mul-one, whole_is)

-- ---- and so, whatever the arguments, the answers with their refusals are the same where lines is a power of two
exponent : (k : ℕ) → 2 ^ k ≤ 1024 → k ≤ 10
exponent k h = elim (dec_le k 10) [ yes g ↦ g | no g ↦ absurd (not-le_of_lt (pow-lt {i = 10} {j = k} (omega arith)) h) ]

pub agree_at : (d l p k : ℕ) → l ≡ 2 ^ k → PercentRanged d l p → float_meets d l p ≡ whole_meets d l p
agree_at d l p k e r = rw e (agree d k p (exponent k (rw e at r.most)) (rw e at r.part) r.cent)

pub powers_agree : (S : Settings) (d k : ℕ) → lines_of S ≡ 2 ^ k → PercentRanged d (lines_of S) S.dirty → float_meets d (lines_of S) S.dirty ≡ enough_dirty S d
powers_agree S d k e r = agree_at d (lines_of S) S.dirty k e r ∙ sym (ours S d)

pub same_answer : (d l p k : ℕ) → l ≡ 2 ^ k → share_of (percent_in_range d l p) (float_meets d l p) ≡ share_of (percent_in_range d l p) (whole_meets d l p)
same_answer d l p k e = ⊎_elim (λ t. rw t (ap (λ (b : Bool). share_of true b) (agree_at d l p k e (percent_ranged d l p t)))) (λ t. rw t) (flag (percent_in_range d l p))
