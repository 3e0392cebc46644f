-- "The program asks on and lists all": to ask from 0, and from the number behind each answer, lists the pairs that differ, each once, in order.
use Rattle.std.specs.Prelude.{None, Some}
use Rattle.words.proofs.General.{ℕ, zero, suc, ◌+◌, ◌-◌, ◌≤◌, ◌<◌, arith, ◌≡◌, refl, ap, ◌∙◌, ⊎_elim, true, false, List, [], ◌∷◌, flag}
use Rattle.comparing.specs.declared.Difference.{Difference}
use Rattle.comparing.specs.Groups.{group_side}
use Rattle.comparing.specs.Pairs.{same_pair, differs, first_of, pairs, first_difference, listed, differences_from_pair}

module _ (a b : List ℕ) where
  none-listed : (d n : ℕ) → first_of d a b n ≡ None → listed d a b n ≡ []
  unfolding first_of listed
  none-listed zero n e = refl
  none-listed (suc d) n e =
      ⊎_elim
      (λ t. rw t (none-listed d (suc n) (rw t at e)))
      (λ t. let r : Some (differs n (group_side a n) (group_side b n)) ≡ None = rw t at e in cc)
      (flag (same_pair a b n))

  -- an answer within d pairs from n on, and what is listed behind it
  record NextListed (d n k : ℕ) (r : Difference) : Type 0 where
    from : n ≤ k
    to : k < n + d
    rest : listed d a b n ≡ r ∷ listed (n + d - (k + 1)) a b (k + 1)

  one-listed : (d n : ℕ) {r : Difference} → first_of d a b n ≡ Some r → NextListed d n r.number r
  unfolding first_of listed
  one-listed zero n e = cc
  one-listed (suc d) n {r} e =
      ⊎_elim
      (λ (t : same_pair a b n ≡ true).
      let h = one-listed d (suc n) (rw t at e) in
      let z : n + suc d - (r.number + 1) ≡ suc n + d - (r.number + 1) = omega arith in
      record { from = omega (arith, h.from); to = omega (arith, h.to); rest = rw (t, z) h.rest })
      (λ (t : same_pair a b n ≡ false).
      let g : Some (differs n (group_side a n) (group_side b n)) ≡ Some r = rw t at e in
      let f : differs n (group_side a n) (group_side b n) ≡ r = cc in
      let z : n ≡ r.number = ap (λ x. x.number) f in
      let y : n + suc d - (r.number + 1) ≡ d = omega arith in
      let x : r.number + 1 ≡ suc n = omega arith in
      record { from = omega arith; to = omega arith; rest = rw (t, y, x, f) })
      (flag (same_pair a b n))

  -- ---- asked with a number

  pub asked_none : (n : ℕ) → first_difference a b n ≡ None → differences_from_pair a b n ≡ []
  unfolding first_difference differences_from_pair
  asked_none n e = none-listed (pairs a b - n) n e

  pub asked_on : (n : ℕ) {r : Difference} → first_difference a b n ≡ Some r → differences_from_pair a b n ≡ r ∷ differences_from_pair a b (r.number + 1)
  unfolding first_difference differences_from_pair
  asked_on n {r} e =
      let h = one-listed (pairs a b - n) n e in
      let z : n + (pairs a b - n) - (r.number + 1) ≡ pairs a b - (r.number + 1) = omega arith in
      h.rest ∙ rw z
