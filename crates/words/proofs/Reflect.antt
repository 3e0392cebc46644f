-- A test and the fact that it decides, put together as the tests are.
use mathlib.Core.Path.{◌≡◌, refl}
use mathlib.Core.Logic.{◌⊎◌, inl, inr, ⊎_elim}
use mathlib.Core.Bool.{Bool, true, false, not, ◌&&◌, ◌||◌}
use mathlib.Core.List.{List}
use Prim.Native.Nat.{ℕ, ◌≤◌, ◌<◌}
use lib.Dec.{eqb, leb, ltb}
use lib.ListN.{length, get_or}
use borrow.Author.Tests.{eq-eqb, eqb-true, le-leb, leb-true, lt-ltb, ltb-true}
use Rattle.words.specs.Words.{imp, every, some, pick, all, any, count}
use Rattle.words.proofs.Flags.{and_1, and_2, and_i, or_cases, or_1, or_2, clash, imp_i, imp_use}
use Rattle.words.proofs.Below.{every_at, every_i, some_at, some_i}
use Rattle.words.proofs.Lists.{count_index, index-count}
use Rattle.words.proofs.Tabled.{all_get, any_get}

infixl 5 ◌⊓◌
pub record Decides (b : Bool) (P : Type 0) : Type 0 where
  pub fact : b ≡ true → P
  pub test : P → b ≡ true

pub is_flag : (b : Bool) → Decides b (b ≡ true)
is_flag b = record { fact = λ e. e; test = λ e. e }

pub is_eq : (m n : ℕ) → Decides (eqb m n) (m ≡ n)
is_eq m n = record { fact = λ e. eqb-true m n e; test = λ e. eq-eqb m n e }

pub is_le : (m n : ℕ) → Decides (leb m n) (m ≤ n)
is_le m n = record { fact = λ e. leb-true m n e; test = λ e. le-leb m n e }

pub is_lt : (m n : ℕ) → Decides (ltb m n) (m < n)
is_lt m n = record { fact = λ e. ltb-true m n e; test = λ e. lt-ltb m n e }

pub is_not : {b : Bool} {P : Type 0} → Decides b P → Decides (not b) (P → ⊥)
is_not {b = true} i = record { fact = λ e. clash e refl; test = λ f. absurd (f (i.fact refl)) }
is_not {b = false} i = record { fact = λ e p. clash (i.test p) refl; test = λ f. refl }

pub ◌⊓◌ : {a b : Bool} {P Q : Type 0} → Decides a P → Decides b Q → Decides (a && b) (P × Q)
◌⊓◌ {a} {b} i j = record { fact = λ e. (i.fact (and_1 a b e), j.fact (and_2 a b e)); test = λ w. and_i (i.test w.0) (j.test w.1) }

pub is_or : {a b : Bool} {P Q : Type 0} → Decides a P → Decides b Q → Decides (a || b) (P ⊎ Q)
is_or {a} {b} i j = record {
  fact = λ e. ⊎_elim (λ h. inl (i.fact h)) (λ h. inr (j.fact h)) (or_cases a b e);
  test = λ w. ⊎_elim (λ h. or_1 a b (i.test h)) (λ h. or_2 a b (j.test h)) w;
}

pub is_imp : {a b : Bool} {P Q : Type 0} → Decides a P → Decides b Q → Decides (imp a b) (P → Q)
is_imp {a} {b} i j = record { fact = λ e p. j.fact (imp_use a b e (i.test p)); test = λ f. imp_i a b (λ h. j.test (f (i.fact h))) }

pub is_every : (n : ℕ) {p : ℕ → Bool} {P : ℕ → Type 0} → ((i : ℕ) → Decides (p i) (P i)) → Decides (every n p) ((i : ℕ) → i < n → P i)
is_every n {p} f = record { fact = λ e i h. (f i).fact (every_at p n i e h); test = λ g. every_i p n (λ i h. (f i).test (g i h)) }

pub is_some : (n : ℕ) {p : ℕ → Bool} {P : ℕ → Type 0} → ((i : ℕ) → Decides (p i) (P i)) → Decides (some n p) ((i : ℕ) × (i < n) × P i)
is_some n {p = p} f = record {
  fact = λ e. let (i, h, q) = some_at p n e in (i, h, (f i).fact q);
  test = λ w. some_i p n w.0 w.1 ((f w.0).test w.2);
}

pub is_none : (n : ℕ) {p : ℕ → Bool} {P : ℕ → Type 0} → ((i : ℕ) → Decides (p i) (P i)) → Decides (not (some n p)) ((i : ℕ) → i < n → P i → ⊥)
is_none n {p} f = record {
  fact = λ e i h q. (is_not (is_some n {p = p} f)).fact e (i, h, q);
  test = λ g. (is_not (is_some n {p = p} f)).test (λ w. g w.0 w.1 w.2);
}

-- the same fact in other words
pub is_as : {b : Bool} {P Q : Type 0} → Decides b P → (P → Q) → (Q → P) → Decides b Q
is_as i f g = record { fact = λ e. f (i.fact e); test = λ q. i.test (g q) }

pub is_both : {a b c : Bool} {P Q R : Type 0} → Decides a P → Decides b Q → Decides c R → Decides (imp a (b && c)) ((P → Q) × (P → R))
is_both i j k = is_as (is_imp i (j ⊓ k)) (λ f. (λ p. (f p).0, λ p. (f p).1)) (λ w p. (w.0 p, w.1 p))

-- ---- tests on a list, and choices

pub is_test : {a b : Bool} {P : Type 0} → a ≡ b → Decides b P → Decides a P
is_test e i = rw e i

module _ {A : Type 0} (p : A → Bool) {P : ℕ → Type 0} (xs : List A) (d : A) where
  pub is_all : ((i : ℕ) → i < length xs → Decides (p (get_or xs i d)) (P i)) → Decides (all p xs) ((i : ℕ) → i < length xs → P i)
  is_all f =
      is_test (all_get p xs d) record {
        fact = λ e i h. (f i h).fact (every_at (λ i. p (get_or xs i d)) (length xs) i e h);
        test = λ g. every_i (λ i. p (get_or xs i d)) (length xs) (λ i h. (f i h).test (g i h));
      }

  pub is_any : ((i : ℕ) → Decides (p (get_or xs i d)) (P i)) → Decides (any p xs) ((i : ℕ) × (i < length xs) × P i)
  is_any f = is_test (any_get p xs d) (is_some (length xs) f)

-- exactly one passes
pub is_one : {A : Type 0} (p : A → Bool) (xs : List A) (d : A) (i : ℕ) → i < length xs → p (get_or xs i d) ≡ true
    → Decides (eqb (count p xs) 1) ((j : ℕ) → j < length xs → p (get_or xs j d) ≡ true → j ≡ i)
is_one p xs d i h e = record {
  fact = λ t j k f. count_index p d xs (eqb-true _ _ t) j i k h f e;
  test = λ f. eq-eqb _ _ (index-count p d xs i h e f);
}

pub is_pick : {b x y : Bool} {P Q : Type 0} → Decides x P → Decides y Q → Decides (pick b x y) ((b ≡ true → P) × (b ≡ false → Q))
is_pick {b = true} i j = record { fact = λ e. (λ z. i.fact e, λ z. clash refl z); test = λ w. i.test (w.0 refl) }
is_pick {b = false} i j = record { fact = λ e. (λ z. clash z refl, λ z. j.fact e); test = λ w. j.test (w.1 refl) }

pub is_else : {a b : Bool} {Q : Type 0} → (a ≡ false → Decides b Q) → Decides (a || b) (a ≡ false → Q)
is_else {a = true} i = record { fact = λ e z. clash refl z; test = λ f. refl }
is_else {a = false} i = record { fact = λ e z. (i refl).fact e; test = λ f. (i refl).test (f refl) }
