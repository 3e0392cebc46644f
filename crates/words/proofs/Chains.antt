-- Chains over the numbers below n, `(0..n).all(..)` and `(0..n).any(..)`, as `every` and `some`; over a list, as `all` and `any`.
use mathlib.Core.Path.{◌≡◌, refl, sym, ap, ◌∙◌}
use mathlib.Core.Bool.{Bool, ◌&&◌, ◌||◌, and_assoc, or_assoc, and-true, or-false}
use mathlib.Core.List.{List, [], ◌∷◌}
use Prim.Native.Nat.{ℕ, zero, suc, ◌+◌}
use native.Mathlib.Nat.{add-zero, zero-add}
use native.Mathlib.Omega.{arith}
use Rattle.std.specs.List.{list_all, list_any, range_with_len}
use Rattle.words.specs.Words.{all, any, every, some}
use Rattle.words.proofs.Below.{every-same, some_same}

every-first : (n : ℕ) (p : ℕ → Bool) → every (suc n) p ≡ (p 0 && every n (λ i. p (suc i)))
every-first zero p = sym (and-true (p 0))
every-first (suc n) p = ap (λ b. b && p (suc n)) (every-first n p) ∙ and_assoc (p 0) (every n (λ i. p (suc i))) (p (suc n))

some-first : (n : ℕ) (p : ℕ → Bool) → some (suc n) p ≡ (p 0 || some n (λ i. p (suc i)))
some-first zero p = sym (or-false (p 0))
some-first (suc n) p = ap (λ b. b || p (suc n)) (some-first n p) ∙ or_assoc (p 0) (some n (λ i. p (suc i))) (p (suc n))

all_from : (n a : ℕ) (p : ℕ → Bool) → list_all p (range_with_len a n) ≡ every n (λ i. p (a + i))
all_from zero a p = refl
all_from (suc n) a p =
    ap (λ b. p a && b) (all_from n (a + 1) p ∙ every-same (λ i. p (a + 1 + i)) (λ i. p (a + suc i)) n (λ i h. ap p (omega arith)))
    ∙ ap (λ k. p k && every n (λ i. p (a + suc i))) (sym (add-zero a))
    ∙ sym (every-first n (λ i. p (a + i)))

any_from : (n a : ℕ) (p : ℕ → Bool) → list_any p (range_with_len a n) ≡ some n (λ i. p (a + i))
any_from zero a p = refl
any_from (suc n) a p =
    ap (λ b. p a || b) (any_from n (a + 1) p ∙ some_same (λ i. p (a + 1 + i)) (λ i. p (a + suc i)) n (λ i h. ap p (omega arith)))
    ∙ ap (λ k. p k || some n (λ i. p (a + suc i))) (sym (add-zero a))
    ∙ sym (some-first n (λ i. p (a + i)))

pub all_below : (n : ℕ) (p : ℕ → Bool) → list_all p (range_with_len 0 n) ≡ every n p
all_below n p = all_from n 0 p ∙ every-same (λ i. p (0 + i)) p n (λ i h. ap p (zero-add i))

pub any_below : (n : ℕ) (p : ℕ → Bool) → list_any p (range_with_len 0 n) ≡ some n p
any_below n p = any_from n 0 p ∙ some_same (λ i. p (0 + i)) p n (λ i h. ap p (zero-add i))

-- the same words on lists
module _ {A : Type 0} (p : A → Bool) where
  pub any_listed : (xs : List A) → list_any p xs ≡ any p xs
  any_listed [] = refl
  any_listed (x ∷ xs) = ap (λ b. p x || b) (any_listed xs)

  pub all_listed : (xs : List A) → list_all p xs ≡ all p xs
  all_listed [] = refl
  all_listed (x ∷ xs) = ap (λ b. p x && b) (all_listed xs)
