-- Places in use that are the first ones: how many they are tells which.
use Rattle.words.proofs.General.{ℕ, zero, suc, ◌+◌, ◌-◌, ◌≤◌, ◌<◌, not-suc-le-zero, arith, ◌≡◌, refl, ap, ◌∙◌, ⊎_elim, false, not, eqb, eqb-true, eqb-false, eq-eqb, ne_eqb, flag}
use Rattle.words.proofs.General.{last_or_below, squeeze, count_short}
use Rattle.model.proofs.Terms.{in_use}
use Rattle.encoding.proofs.LentSoundFacts.{UsedFirst}

module _ (f : ℕ → ℕ) where
  all_used : (n : ℕ) → ((i : ℕ) → i < n → f i ≡ 0 → ⊥) → in_use n f ≡ n
  all_used zero g = refl
  all_used (suc n) g = rw (all_used n (λ i h. g i (omega arith)), ne_eqb (f n) 0 (g n (omega arith))) (omega arith)

  pub in_use_is : (n m : ℕ) → m ≤ n → ((i : ℕ) → i < m → f i ≡ 0 → ⊥) → ((i : ℕ) → i < n → m ≤ i → f i ≡ 0) → in_use n f ≡ m
  in_use_is n m h u z = count_short (λ i. not (eqb (f i) 0)) n m h (λ i a b. ap not (eq-eqb _ _ (z i a b))) ∙ all_used m u

  -- of n places the first m are used, the others free
  pub record FirstUsed (n m : ℕ) : Type 0 where
    pub few : m ≤ n
    pub used : (i : ℕ) → i < m → f i ≡ 0 → ⊥
    pub free : (i : ℕ) → i < n → m ≤ i → f i ≡ 0

  pub first_used : (n : ℕ) → UsedFirst n f → FirstUsed n (in_use n f)
  first_used zero g = record { few = omega arith; used = λ i h. absurd (not-suc-le-zero h); free = λ i h. absurd (not-suc-le-zero h) }
  first_used (suc n) g =
      let r = first_used n (λ j k. g j (omega arith)) in
      let most : in_use n f ≤ n = r.few in
      ⊎_elim
      (λ z. rw z (record {
        few = omega arith;
        used = λ i h. r.used i (omega arith);
        free = λ i h k. ⊎_elim (λ q. rw q (eqb-true _ _ z)) (λ l. r.free i l (omega arith)) (last_or_below n i h);
      }))
      (λ (z : eqb (f n) 0 ≡ false).
      let full : in_use n f ≡ n = squeeze _ _ (λ l.
      let last : n - 1 + 1 ≡ n = omega arith in
      eqb-false _ _ z (rw last at (g (n - 1) (omega arith) (r.free (n - 1) (omega arith) (omega arith))))) (λ l. omega arith) in
      rw (z, full) (record {
        few = omega arith;
        used = λ i h e. ⊎_elim (λ q. eqb-false _ _ z (rw q at e)) (λ l. r.used i (omega arith) e) (last_or_below n i (omega arith));
        free = λ i h k. absurd (omega arith);
      }))
      (flag (eqb (f n) 0))
