-- The sizes that settings in range allow, sets × ways: how one is known, and that the two answers agree at each. Assumes nothing.
use Rattle.words.proofs.General.{ℕ, ◌-◌, ◌*◌, ◌/◌, ◌%◌, ◌≤◌, le_trans, div-le_self, le-mul_of_pos_right, div-add-mod', mul-div_cancel, mul-mod_left, mul-mod_right, arith, ◌≡◌}
use Rattle.words.proofs.General.{refl, sym, ap, ◌∙◌, ⊎_elim, Bool, true, false, not, ◌&&◌, Bool·beq, leb, eqb, le-leb, eqb-true, eq-eqb, not-true, not-false, every, imp, and_i}
use Rattle.words.proofs.General.{or_cases, clash, every_at}
use lib.Ieee.Positive.{first_pos}
use Rattle.model.proofs.Terms.{power_to256, lines_of, in_range, enough_dirty}
use Rattle.model.specs.declared.Settings.{Settings}
use Rattle.model.proofs.Fits.{ranged, sets_most}
use Rattle.percentage.specs.Percent.{float_meets, whole_meets, cache_of, Legal}
use Rattle.percentage.specs.Differences.{differ}
use Rattle.percentage.proofs.Laws.{ours, agreed}
use Rattle.percentage.proofs.Ties.{falls_short, differ-no}

-- ---- a number of sets is a divisor of 256
abbrev divisor : ℕ → Bool
divisor n = imp (leb 1 n) (Bool·beq (power_to256 n) (eqb (256 % n) 0))

divisors : every 1025 divisor ≡ true
divisors = refl

power_is : (n : ℕ) → 1 ≤ n → n ≤ 1024 → power_to256 n ≡ eqb (256 % n) 0
power_is n h k = agreed (power_to256 n) (eqb (256 % n) 0) (rw (le-leb 1 n h) at (every_at divisor 1025 n divisors (omega arith)))

-- these ways divide the lines, and leave a number of sets
abbrev pub Split : ℕ → ℕ → Type 0
Split l w = (l % w ≡ 0) × (256 % (l / w) ≡ 0)

module _ (l w : ℕ) (e : l % w ≡ 0) where
  pub lines_whole : l / w * w ≡ l
  lines_whole = let h = div-add-mod' l w in omega arith

  pub sets_pos : 1 ≤ l → 1 ≤ l / w
  sets_pos h = first_pos (l / w) w (rw lines_whole h)

pub legal : (l w : ℕ) → 1 ≤ l → l ≤ 1024 → 1 ≤ w → w ≤ 16 → Split l w → Legal l true
unfolding in_range
legal l w L M W X (e, f) =
    let h : power_to256 (l / w) ≡ true = power_is (l / w) (sets_pos l w e L) (le_trans (div-le_self l w) M) ∙ eq-eqb _ 0 f in
    let k : leb (l / w * w) 1024 ≡ true = le-leb (l / w * w) 1024 (rw (lines_whole l w e) M) in
    (cache_of (l / w) w 0, simp (h, k, le-leb 1 w W, le-leb w 16 X), lines_whole l w e)

module _ (S : Settings) (e : in_range S ≡ true) where
  pub lines_some : 1 ≤ lines_of S
  lines_some = let r = ranged S e in le_trans r.sets (le-mul_of_pos_right S.sets r.ways)

  sets_divide : eqb (256 % S.sets) 0 ≡ true
  sets_divide = let r = ranged S e in sym (power_is S.sets r.sets (omega (arith, sets_most S e))) ∙ r.power

  pub split : Split (lines_of S) S.ways
  split =
      let h : lines_of S / S.ways ≡ S.sets = mul-div_cancel S.sets (ranged S e).ways in
      (mul-mod_left S.sets S.ways, rw h (eqb-true _ 0 sets_divide))

-- ---- none is a multiple of a hundred, so the two answers agree
abbrev no_hundred : ℕ → ℕ → Bool
no_hundred s w = imp (leb 1 w) (not (eqb (s * w % 100) 0))

abbrev no-hundreds : ℕ → Bool
no-hundreds s = imp (leb 1 s && eqb (256 % s) 0) (every 17 (no_hundred s))

sizes : every 1025 no-hundreds ≡ true
sizes = refl

not_hundred : (S : Settings) → in_range S ≡ true → lines_of S % 100 ≡ 0 → ⊥
not_hundred S e h =
    let r = ranged S e in
    let sets : (leb 1 S.sets && eqb (256 % S.sets) 0) ≡ true = and_i (le-leb 1 S.sets r.sets) (sets_divide S e) in
    let some : every 17 (no_hundred S.sets) ≡ true = rw sets at (every_at no-hundreds 1025 S.sets sizes (omega (arith, sets_most S e))) in
    let this : no_hundred S.sets S.ways ≡ true = every_at (no_hundred S.sets) 17 S.ways some (omega (arith, r.few_ways)) in
    clash (eq-eqb (lines_of S % 100) 0 h) (not-true (eqb (lines_of S % 100) 0) (rw (le-leb 1 S.ways r.ways) at this))

-- a tie at 53 or at 59 has a multiple of a hundred for lines
pub tied : (d l p : ℕ) → falls_short p ≡ true → 100 * d ≡ p * l → l % 100 ≡ 0
tied d l p s e =
    ⊎_elim
    (λ h. let g : 100 * d ≡ 53 * l = e ∙ ap (λ (z : ℕ). z * l) (eqb-true p 53 h) in at (17 * d - 9 * l) (omega arith))
    (λ h. let g : 100 * d ≡ 59 * l = e ∙ ap (λ (z : ℕ). z * l) (eqb-true p 59 h) in at (39 * d - 23 * l) (omega arith))
    (or_cases (eqb p 53) (eqb p 59) s)
  where
    at : (z : ℕ) → l ≡ 100 * z → l % 100 ≡ 0
    at z k = ap (λ (z : ℕ). z % 100) k ∙ mul-mod_right 100 z

module _ (S : Settings) (d : ℕ) (e : in_range S ≡ true) (D : d ≤ lines_of S) where
  pub never_at_a_cache : differ d (lines_of S) S.dirty ≡ false
  never_at_a_cache =
      let r = ranged S e in
      differ-no d (lines_of S) S.dirty (record { some = lines_some S e; most = r.lines; part = D; cent = r.dirty }) (λ s h. not_hundred S e (tied d (lines_of S) S.dirty s h))

  -- the float answer is the engine's at every cache
  pub caches_agree : float_meets d (lines_of S) S.dirty ≡ enough_dirty S d
  unfolding differ
  caches_agree = agreed (float_meets d (lines_of S) S.dirty) (whole_meets d (lines_of S) S.dirty) (not-false _ never_at_a_cache) ∙ sym (ours S d)
