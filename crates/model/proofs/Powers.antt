-- The low digits of a number are its remainder by a power of two, and so by each of the nine numbers of sets.
use Rattle.words.proofs.General.{ℕ, ◌-◌, ◌%◌, ◌^◌, ◌≡◌, refl, ⊎_elim, true, List, [], ◌∷◌, map, eqb, eqb-true, any, or_cases, clash}
use lib.Bits.{bit_and, and_mask}
use Rattle.model.proofs.Terms.{power_to256}

-- x & (2^k - 1) is x mod 2^k, for every k of a list
masked : (x : ℕ) (ks : List ℕ) (n : ℕ) → any (eqb n) (map (λ k. 2 ^ k) ks) ≡ true → bit_and x (n - 1) ≡ x % n
masked x [] n e = clash e refl
masked x (k ∷ ks) n e = ⊎_elim (λ h. rw (eqb-true n (2 ^ k) h) (and_mask x k)) (λ h. masked x ks n h) (or_cases (eqb n (2 ^ k)) _ e)

pub masked_is_remainder : (x n : ℕ) → power_to256 n ≡ true → bit_and x (n - 1) ≡ x % n
masked_is_remainder x n = masked x (0 ∷ 1 ∷ 2 ∷ 3 ∷ 4 ∷ 5 ∷ 6 ∷ 7 ∷ 8 ∷ []) n
