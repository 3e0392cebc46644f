-- The test of same bytes: it holds exactly of equal lists.
use Rattle.words.proofs.General.{ℕ, ◌≡◌, refl, sym, ap, true, false, List, [], ◌∷◌, length}
use Rattle.words.proofs.General.{eqb, eqb-true, eq-eqb, and_1, and_2, and_i, no-yes, clash}
use Rattle.comparing.specs.Pairs.{same_bytes}

pub same_equal : (a b : List ℕ) → same_bytes a b ≡ true → a ≡ b
same_equal [] [] e = refl
same_equal [] (y ∷ b) e = clash e refl
same_equal (x ∷ a) [] e = clash e refl
same_equal (x ∷ a) (y ∷ b) e =
    let p : x ≡ y = eqb-true x y (and_1 (eqb x y) (same_bytes a b) e) in
    let q : a ≡ b = same_equal a b (and_2 (eqb x y) (same_bytes a b) e) in
    rw (p, q)

pub same_self : (a : List ℕ) → same_bytes a a ≡ true
same_self [] = refl
same_self (x ∷ a) = and_i (eq-eqb x x refl) (same_self a)

pub same-lengths : (a b : List ℕ) → (length a ≡ length b → ⊥) → false ≡ same_bytes a b
same-lengths a b f = sym (no-yes (λ e. f (ap length (same_equal a b e))))
