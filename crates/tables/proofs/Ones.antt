-- A table in which one record goes.
use Rattle.words.proofs.General.{ℕ, zero, suc, ◌<◌, not-suc-le-zero, le_of_suc-le-suc, arith, ◌≡◌, refl, ap, ◌≢◌, Bool, true, false, List, [], ◌∷◌, length, get_or, drop, keep}
use Rattle.words.proofs.General.{dropped}

module _ {A : Type 0} where
  keep_all : (p : A → Bool) (d : A) (l : List A) → ((j : ℕ) → j < length l → p (get_or l j d) ≡ true) → keep p l ≡ l
  keep_all p d [] h = refl
  keep_all p d (x ∷ l) h = rw (h 0 (omega arith), keep_all p d l (λ j k. h (suc j) (omega arith)))

  -- a choice that leaves one record out
  pub keep_one : (p : A → Bool) (d : A) (l : List A) (e : ℕ) → e < length l → p (get_or l e d) ≡ false → ((j : ℕ) → j < length l → j ≢ e → p (get_or l j d) ≡ true) → keep p l ≡ dropped e l
  keep_one p d [] e k n h = absurd (not-suc-le-zero k)
  keep_one p d (x ∷ l) zero k n h = rw n (keep_all p d l (λ j i. h (suc j) (omega arith) (λ q. let z : suc j ≡ 0 = q in omega arith)))
  keep_one p d (x ∷ l) (suc e) k n h =
      rw (h 0 (omega arith) (λ q. let z : 0 ≡ suc e = q in omega arith))
      (ap (λ (r : List A). x ∷ r) (keep_one p d l e (le_of_suc-le-suc k) n (λ j i m. h (suc j) (omega arith) (λ q. let z : suc j ≡ suc e = q in m (omega arith)))))

  pub dropped-first : (l : List A) → dropped 0 l ≡ drop 1 l
  dropped-first [] = refl
  dropped-first (x ∷ l) = refl
