-- The float answer and the engine's differ only where 100 × dirty is P × lines to the last digit and P is 53 or 59. Assumes nothing.
-- Away from such a tie a fraction over 2 ^ 17, which no step rounds, lies between dirty / lines and P / 100, since lines is at most 1,024;
-- rounding keeps the order, so it cannot carry the percentage past P. At a tie the answer is that of P lines of 100.
use Rattle.words.proofs.General.{ℕ, zero, suc, ◌+◌, ◌-◌, ◌*◌, ◌/◌, ◌^◌, ◌≤◌, ◌<◌, zero-le, le_trans, le_of_eq, not-le_of_lt, lt_of_not-le, lt_of_le_of_lt, mul-one, mul_comm}
use Rattle.words.proofs.General.{mul-le-mul_right, arith, ◌≡◌, refl, sym, ap, ap₂, ◌∙◌, ⊎_elim, Bool, true, false, not, ◌&&◌, ◌||◌, Bool·beq, T, ltb, eqb, lit<, le-leb, lt-leb}
use Rattle.words.proofs.General.{eq-eqb, ne_eqb, eqb-true, eqb-false, every, flag, and_no, no-yes, every_at}
use lib.Ieee.{Float, nan, inf, fin, Format, binary32, low, emax, prec, up, down, odd, units, round, div, mul, le, of_int}
use lib.Ieee.Fits.{down_pos}
use lib.Ieee.Exact.{HasValue}
use lib.Ieee.Order.{round_mono}
use lib.Ieee.Scale.{round_same}
use lib.Ieee.Positive.{through, first_pos}
use lib.Arith.{lt_of_le-ne}
use native.Mathlib.Decide.{dec_le}
use lib.Pow.{pow_pos}
use denote.Floats.{passes, is_true}
use Rattle.percentage.specs.Percent.{as_single, percent_of, float_meets, whole_meets, PercentRanged}
use Rattle.percentage.specs.Differences.{differ}
use Rattle.percentage.proofs.Laws.{quotient_is, agreed, whole_is, mul_at, exact, single_value, values_le}

-- ---- a rounded fraction is not negative, and no NaN; below a number it has a value
abbrev nonneg : Float → Bool
nonneg nan = false
nonneg (inf s) = not s
nonneg (fin s m e) = not s

odd_nonneg : (d q k l : ℕ) → T (nonneg (odd d false q k l))
unfolding odd
odd_nonneg d zero k l = tt
odd_nonneg d (suc q) k l = tt

units_nonneg : (f : Format) (q k : ℕ) → T (nonneg (units f false q k))
unfolding units
units_nonneg f q k = ⊎_elim (λ e. rw e (odd_nonneg (suc (prec f)) q k (low f))) (λ e. rw e tt) (flag (ltb (q * 2 ^ k) (2 ^ (low f + suc (emax f)))))

round_nonneg : (f : Format) (a c : ℕ) → T (nonneg (round f false a c))
unfolding round
round_nonneg f a c = units_nonneg f _ _

record Value (x : Float) : Type 0 where
  over : ℕ
  under : ℕ
  some : 0 < under
  value : HasValue x false over under

below_number : (x y : Float) (b d : ℕ) → T (nonneg x) → HasValue y false b d → T (le x y) → Value x
unfolding le
below_number nan y b d n k t = absurd n
below_number (inf true) y b d n k t = absurd n
below_number (inf false) nan b d n k t = absurd k
below_number (inf false) (inf s) b d n k t = absurd k
below_number (inf false) (fin s m e) b d n k t = absurd t
below_number (fin true m e) y b d n k t = absurd n
below_number (fin false m e) y b d n k t = record { over = m * up e; under = down e; some = down_pos e; value = (refl, refl) }

-- ---- the quotient, rounded, is at most 1, and the percentage is a hundred times its value, rounded
module _ (d l : ℕ) (L : 0 < l) (M : l ≤ 1024) (D : d ≤ l) where
  quotient : Value (round binary32 false d l)
  quotient =
      below_number (round binary32 false d l) (round binary32 false 1 1) 1 1 (round_nonneg binary32 d l) (exact 1 0 (lit< tt) (omega arith))
      (round_mono binary32 d l 1 1 L (lit< tt) (omega arith))

  percent_is : percent_of d l ≡ round binary32 false (quotient.over * 100) quotient.under
  unfolding percent_of
  percent_is =
      rw (quotient_is d l L M D) (mul_at binary32 _ _ quotient.over quotient.under 100 1 quotient.some (lit< tt) quotient.value (single_value 100 (lit< tt))
      ∙ ap (round binary32 false (quotient.over * 100)) (mul-one quotient.under))

  -- P / 100 ≤ y / 2 ^ 17 ≤ dirty / lines
  float_yes : (p y : ℕ) → p ≤ 100 → y < 2 ^ 24 → p * 2 ^ 17 ≤ y * 100 → y * l ≤ d * 2 ^ 17 → T (float_meets d l p)
  unfolding float_meets of_int
  float_yes p y P Y h k =
      let a = quotient.over in
      let c = quotient.under in
      let up_to : y * c ≤ a * 2 ^ 17 =
      values_le (round binary32 false y (2 ^ 17)) (round binary32 false d l) y (2 ^ 17) a c (exact y 17 Y (omega arith)) quotient.value
      (round_mono binary32 y (2 ^ 17) d l (pow_pos 17) L k) in
      let all : p * c ≤ a * 100 = through p y a 100 (2 ^ 17) c (pow_pos 17) h up_to in
      rw percent_is (round_mono binary32 p 1 (a * 100) c (lit< tt) quotient.some (le_trans all (le_of_eq (sym (mul-one (a * 100))))))

  -- dirty / lines ≤ y / 2 ^ 17 < P / 100
  float_no : (p y : ℕ) → p ≤ 100 → y * 100 < p * 2 ^ 17 → d * 2 ^ 17 ≤ y * l → T (float_meets d l p) → ⊥
  unfolding float_meets
  float_no p y P h k t =
      let a = quotient.over in
      let c = quotient.under in
      let small : y * 100 < 2 ^ 24 = omega arith in
      let up_to : a * 2 ^ 17 ≤ y * c =
      values_le (round binary32 false d l) (round binary32 false y (2 ^ 17)) a c y (2 ^ 17) quotient.value (exact y 17 (omega arith) (omega arith))
      (round_mono binary32 d l y (2 ^ 17) L (pow_pos 17) k) in
      let all : a * 100 * 2 ^ 17 ≤ y * 100 * c = omega arith in
      let under : T (le (percent_of d l) (round binary32 false (y * 100) (2 ^ 17))) =
      rw percent_is (round_mono binary32 (a * 100) c (y * 100) (2 ^ 17) quotient.some (pow_pos 17) all) in
      let top : HasValue (round binary32 false (y * 100) (2 ^ 17)) false (y * 100) (2 ^ 17) = exact (y * 100) 17 small (omega arith) in
      let v : Value (percent_of d l) =
      below_number (percent_of d l) (round binary32 false (y * 100) (2 ^ 17)) (y * 100) (2 ^ 17)
      (rw percent_is (round_nonneg binary32 (a * 100) c)) top under in
      not-le_of_lt h
      (le_trans
      (through p v.over (y * 100) 1 v.under (2 ^ 17) v.some
      (values_le (as_single p) (percent_of d l) p 1 v.over v.under (single_value p (omega arith)) v.value t)
      (values_le (percent_of d l) (round binary32 false (y * 100) (2 ^ 17)) v.over v.under (y * 100) (2 ^ 17) v.value top under))
      (le_of_eq (mul-one (y * 100))))

-- ---- away from a tie: the numbers next above and next below P × 2 ^ 17 / 100 serve, since 2 ^ 17 is more than 100 × lines
module _ (d l p y : ℕ) (M : l ≤ 1024) where
  at_most : y * 100 ≤ p * 131072 + 100 → p * l < 100 * d → y * l ≤ d * 131072
  at_most h k = omega (arith, mul-le-mul_right l h)

  at_least : p * 131072 ≤ y * 100 + 100 → 100 * d < p * l → d * 131072 ≤ y * l
  at_least h k = omega (arith, mul-le-mul_right l h)

pub no_tie_agrees : (d l p : ℕ) → PercentRanged d l p → (100 * d ≡ p * l → ⊥) → float_meets d l p ≡ whole_meets d l p
no_tie_agrees d l p r n =
    elim (dec_le (p * l) (100 * d)) [
      | yes g ↦
          let y = p * 131072 / 100 + 1 in
          is_true (float_meets d l p)
          (float_yes d l r.some r.most r.part p y r.cent (omega (arith, r.cent)) (omega arith)
          (at_most d l p y r.most (omega arith) (lt_of_le-ne g (λ e. n (sym e)))))
          ∙ sym (whole_is d l p ∙ le-leb (p * l) (100 * d) g)
      | no g ↦
          let y = (p * 131072 - 1) / 100 in
          let h : 100 * d < p * l = lt_of_not-le g in
          let some : 0 < p = first_pos p l (lt_of_le_of_lt zero-le h) in
          no-yes (λ e. float_no d l r.some r.most r.part p y r.cent (omega arith) (at_least d l p y r.most (omega arith) h) (passes _ e))
          ∙ sym (whole_is d l p ∙ lt-leb (p * l) (100 * d) h)
    ]

-- ---- at a tie: the answer is that of P lines of 100, and ours is yes
pub at_tie : (d l p : ℕ) → PercentRanged d l p → 100 * d ≡ p * l → float_meets d l p ≡ float_meets p 100 p
unfolding float_meets percent_of
at_tie d l p r e =
    let same = round_same binary32 false d l p 100 r.some (lit< tt) (mul_comm d 100 ∙ e) in
    rw (quotient_is d l r.some r.most r.part, same, quotient_is p 100 (lit< tt) (omega arith) r.cent)

-- the two P at which the float percentage of P lines of 100 falls short
abbrev pub falls_short : ℕ → Bool
falls_short p = eqb p 53 || eqb p 59

of_100 : every 101 (λ p. Bool·beq (float_meets p 100 p) (not (falls_short p))) ≡ true
unfolding float_meets of_int div mul le
of_100 = refl

at_100 : (p : ℕ) → p ≤ 100 → float_meets p 100 p ≡ not (falls_short p)
at_100 p h = agreed (float_meets p 100 p) (not (falls_short p)) (every_at (λ p. Bool·beq (float_meets p 100 p) (not (falls_short p))) 101 p of_100 (omega arith))

-- ---- so the two differ nowhere else
pub differ_is : (d l p : ℕ) → PercentRanged d l p → differ d l p ≡ (eqb (100 * d) (p * l) && falls_short p)
unfolding differ
differ_is d l p r =
    ⊎_elim
    (λ h.
    let e : 100 * d ≡ p * l = eqb-true (100 * d) (p * l) h in
    rw (h, at_tie d l p r e ∙ at_100 p r.cent, whole_is d l p ∙ le-leb (p * l) (100 * d) (le_of_eq (sym e))) (⊎_elim (λ s. rw s) (λ s. rw s) (flag (falls_short p))))
    (λ h. rw h (rw (no_tie_agrees d l p r (eqb-false (100 * d) (p * l) h)) (⊎_elim (λ s. rw s) (λ s. rw s) (flag (whole_meets d l p)))))
    (flag (eqb (100 * d) (p * l)))

-- ---- where the two answers differ, and where they do not
pub differ-yes : (d l p : ℕ) → PercentRanged d l p → 100 * d ≡ p * l → falls_short p ≡ true → differ d l p ≡ true
differ-yes d l p r e s = differ_is d l p r ∙ ap₂ (λ (a b : Bool). a && b) (eq-eqb (100 * d) (p * l) e) s

pub differ-no : (d l p : ℕ) → PercentRanged d l p → (falls_short p ≡ true → 100 * d ≡ p * l → ⊥) → differ d l p ≡ false
differ-no d l p r n =
    rw (differ_is d l p r) (⊎_elim (λ s. rw (ne_eqb (100 * d) (p * l) (n s))) (λ s. and_no (eqb (100 * d) (p * l)) (falls_short p) s) (flag (falls_short p)))
