-- Laws of a count over a list in which one element changes; a map that changes one.
use Prim.Native.Nat.{ℕ, zero, suc, ◌+◌, ◌-◌, ◌≤◌, ◌<◌}
use mathlib.Core.Path.{◌≡◌, refl, ap}
use mathlib.Core.Logic.{⊎_elim, ◌≢◌}
use mathlib.Core.Bool.{Bool, false}
use mathlib.Core.List.{List, [], ◌∷◌, map}
use native.Mathlib.Nat.{not-suc-le-zero, le_of_suc-le-suc}
use native.Mathlib.Omega.{arith}
use lib.ListN.{length, get_or, set}
use lib.Dec.{eqb}
use borrow.Author.Tests.{eqb-true, eqb-false}
use Rattle.words.specs.Words.{any, count, one}
use Rattle.words.proofs.Flags.{flag, clash, iff}
use Rattle.words.proofs.Lists.{any-in, in-any, in_get_or, in_index}
use Rattle.words.proofs.Tabled.{pick_one}

module _ {A : Type 0} where
  module _ (p : A → Bool) where
    -- element n becomes v
    pub count_set : (l : List A) (n : ℕ) (v d : A) → n < length l → count p (set l n v) + one (p (get_or l n d)) ≡ count p l + one (p v)
    count_set [] n v d h = absurd (not-suc-le-zero h)
    count_set (x ∷ l) zero v d h = omega (arith, pick_one (p v) (count p l), pick_one (p x) (count p l))
    count_set (x ∷ l) (suc n) v d h =
        omega (arith, pick_one (p x) (count p (set l n v)), pick_one (p x) (count p l), count_set l n v d (le_of_suc-le-suc h))

    pub recount : (l : List A) (n : ℕ) (v d : A) → n < length l → {c : ℕ} → c ≡ count p l → c + one (p v) - one (p (get_or l n d)) ≡ count p (set l n v)
    recount l n v d h e = omega (arith, count_set l n v d h)

    pub count-length : (l : List A) → count p l ≤ length l
    count-length [] = omega arith
    count-length (x ∷ l) = let h = count-length l in ⊎_elim (λ q. rw q (omega arith)) (λ q. rw q (omega arith)) (flag (p x))

    -- an element that passes is counted
    pub one-counted : (l : List A) (n : ℕ) (d : A) → n < length l → one (p (get_or l n d)) ≤ count p l
    one-counted [] n d h = absurd (not-suc-le-zero h)
    one-counted (x ∷ l) zero d h = omega (arith, pick_one (p x) (count p l))
    one-counted (x ∷ l) (suc n) d h = omega (arith, pick_one (p x) (count p l), one-counted l n d (le_of_suc-le-suc h))

    -- element n alone can pass
    pub any-one : (l : List A) (n : ℕ) (d : A) → n < length l → ((j : ℕ) → j < length l → j ≢ n → p (get_or l j d) ≡ false) → any p l ≡ p (get_or l n d)
    any-one l n d h other =
        iff (λ e.
        let (x, m, q) = any-in p l e in
        let (j, k, g) = in_index l d x m in
        ⊎_elim (λ z. rw (← (eqb-true j n z), g) q) (λ z. clash (rw g q) (other j k (eqb-false j n z))) (flag (eqb j n)))
        (λ e. in-any p l (in_get_or l n d h) e)

  -- ---- a map that changes one element only

  map-none : (f : A → A) (d : A) (l : List A) → ((j : ℕ) → j < length l → f (get_or l j d) ≡ get_or l j d) → map f l ≡ l
  map-none f d [] h = refl
  map-none f d (x ∷ l) h = rw (h 0 (omega arith), map-none f d l (λ j k. h (suc j) (omega arith)))

  -- a map that changes one record only
  pub map-one : (f : A → A) (d : A) (l : List A) (e : ℕ) → e < length l → ((j : ℕ) → j < length l → j ≢ e → f (get_or l j d) ≡ get_or l j d) → map f l ≡ set l e (f (get_or l e d))
  map-one f d [] e k h = absurd (not-suc-le-zero k)
  map-one f d (x ∷ l) zero k h = ap (λ (r : List A). f x ∷ r) (map-none f d l (λ j i. h (suc j) (omega arith) (λ q. let z : suc j ≡ 0 = q in omega arith)))
  map-one f d (x ∷ l) (suc e) k h =
      rw (h 0 (omega arith) (λ q. let z : 0 ≡ suc e = q in omega arith))
      (ap (λ (r : List A). x ∷ r) (map-one f d l e (le_of_suc-le-suc k) (λ j i n. h (suc j) (omega arith) (λ q. let z : suc j ≡ suc e = q in n (omega arith)))))
