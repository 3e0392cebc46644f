-- Numbers out of text: the digit of a character, the loop that reads digits.
use Rattle.words.proofs.General.{ℕ, ◌+◌, ◌-◌, ◌*◌, ◌^◌, ◌≤◌, ◌<◌, min, max, lt_or_ge, le_trans, mul-le-mul_left, mul-one, add-one, arith, ◌≡◌, sym, ◌∙◌, ⊎_elim}
use Rattle.words.proofs.General.{true, false, false≢true, List, [], ◌∷◌, length, drop, get_or, drop_of_length-le, drop-cons, eqb, ltb, lt-ltb, le-ltb}
use Rattle.words.proofs.General.{ltb-false, ne_eqb, flag, pick_both}
use Rattle.std.specs.Char.{digit_value}
use Rattle.std.proofs.lemmas.Bool.Decides.{nat_tests}
use Rattle.std.proofs.Common.{Option, Some, None, Result, Err}
use Rattle.text.specs.declared.Number.{Number}
use Rattle.text.specs.declared.NotANumber.{NotANumber}
use Rattle.text.specs.declared.NotANumber.TheVariants.{TooLarge}
use Rattle.text.specs.Words.{passing_count, past}
use Rattle.text.proofs.Runs.{past-on, past_off, past_end}
use Rattle.text.specs.Digits.{digit_of, is_digit, value_of, grown_of, number_of, number_in}

-- ---- the digit of a character

-- as the library has it, but for letters behind `f`
digits_same : (c : ℕ) → digit_of c ≡ min 16 (digit_value c)
digits_same c = grind (arith, nat_tests)

module _ (c b : ℕ) (h : b ≤ 16) where
  pub digit_is : {d : ℕ} → digit_value c < b → d ≡ digit_value c → d ≡ digit_of c
  digit_is k e = omega (arith, digits_same c)

  pub digit_not : (digit_value c < b → ⊥) → is_digit b c ≡ false
  digit_not k = le-ltb (digit_of c) b (omega (arith, digits_same c))

-- ---- the loop

pub value_grows : (b v : ℕ) (s : List ℕ) → 0 < b → v ≤ value_of b v s
unfolding value_of
value_grows b v [] h = omega arith
value_grows b v (c ∷ s) h =
    let more : v * 1 ≤ v * b = mul-le-mul_left v h in
    let k = value_grows b (v * b + digit_of c) s h in
    pick_both (λ n. v ≤ n) (is_digit b c) (omega (arith, mul-one v)) (omega arith)

-- the digits from `at` on end where those from i on do, and come to the same behind v
pub record ReadTo (b : ℕ) (s : List ℕ) (at v i : ℕ) : Type 0 where
  pub from : at ≤ i
  pub ends : past (is_digit b) s at ≡ past (is_digit b) s i
  pub comes : value_of b 0 (drop at s) ≡ value_of b v (drop i s)

module _ {b : ℕ} {s : List ℕ} {at v i : ℕ} (g : ReadTo b s at v i) where
  -- no digit stands at i
  done : {r : Result Number NotANumber} → i ≡ past (is_digit b) s i → value_of b v (drop i s) ≡ v → r ≡ number_of at (i - at) v → r ≡ number_in b s at
  unfolding number_in
  done p q e =
      let k : i - at ≡ passing_count (is_digit b) (drop at s) = omega (arith, p ∙ sym g.ends, g.from) in
      e ∙ rw (k, g.comes, q)

  pub read_end : {r : Result Number NotANumber} → length s ≤ i → r ≡ number_of at (i - at) v → r ≡ number_in b s at
  unfolding value_of
  read_end h = done (past_end (is_digit b) s i h) (rw (drop_of_length-le s h))

  -- all characters are read, of a place among them or behind them
  pub read_done : {r : Result Number NotANumber} → length s ≤ i → (at ≤ length s → i ≤ length s) → r ≡ number_of at (max at (length s) - at) v → r ≡ number_in b s at
  unfolding number_in passing_count
  read_done h le e =
      ⊎_elim
      (λ (k : length s < at). let z : max at (length s) - at ≡ 0 = omega arith in e ∙ rw (z, drop_of_length-le s {i = at} (omega arith)))
      (λ (k : at ≤ length s). let l = le k in let z : max at (length s) ≡ i = omega arith in read_end h (rw z at e))
      (lt_or_ge (length s) at)

  module _ (h : i < length s) where
    pub read_off : {r : Result Number NotANumber} → is_digit b (get_or s i 0) ≡ false → r ≡ number_of at (i - at) v → r ≡ number_in b s at
    unfolding value_of
    read_off q =
        done (past_off (is_digit b) s i h q) (rw (drop-cons s i 0 h, q))

    module _ {d : ℕ} (is : d ≡ digit_of (get_or s i 0)) (o : d < b) {w : Option ℕ} (grows : w ≡ grown_of v b d) where
      on : ReadTo b s at (v * b + d) (i + 1)
      unfolding value_of
      on =
          let q : is_digit b (get_or s i 0) ≡ true = lt-ltb (digit_of (get_or s i 0)) b (rw is at o) in
          record { from = omega (arith, g.from); ends = g.ends ∙ past-on (is_digit b) s i h q; comes = g.comes ∙ rw (drop-cons s i 0 h, q, is, add-one i) }

      pub read-on : {n : ℕ} → w ≡ Some n → ReadTo b s at n (i + 1)
      read-on {n} to =
          ⊎_elim
          (λ q. let z = rw q at grows in let e : v * b + d ≡ n = cc in rw (← e) on)
          (λ q. let z = rw q at grows in absurd (false≢true (cc)))
          (flag (ltb (v * b + d) (2 ^ 64)))

      pub read-large : 0 < b → w ≡ None → Err TooLarge ≡ number_in b s at
      unfolding number_in
      read-large pos large =
          let z : eqb (passing_count (is_digit b) (drop at s)) 0 ≡ false = ne_eqb _ 0 (λ (k : passing_count (is_digit b) (drop at s) ≡ 0). omega (arith, on.ends, g.from)) in
          ⊎_elim
          (λ q. let y = rw q at grows in absurd (false≢true (cc)))
          (λ q.
          let m : 2 ^ 64 ≤ value_of b 0 (drop at s) = rw on.comes (le_trans (ltb-false (v * b + d) (2 ^ 64) q) (value_grows b (v * b + d) (drop (i + 1) s) pos)) in
          rw (z, le-ltb (value_of b 0 (drop at s)) (2 ^ 64) m))
          (flag (ltb (v * b + d) (2 ^ 64)))
