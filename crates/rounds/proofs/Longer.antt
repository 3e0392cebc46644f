-- Rounds of any calls, run longer: an accepted offer is the last, and the offers of fewer rounds are the first of more.
use Rattle.words.proofs.General.{ℕ, zero, suc, ◌≤◌, ◌<◌, arith, ◌≡◌, refl, ⊎_elim, true, false, false≢true, List, [], ◌∷◌, ◌++◌, length, get_or, replicate, any, flag, clash}
use Rattle.model.proofs.Terms.{Turn, SeenCalls, accepts, marks, drain, rounds}
use Rattle.model.specs.declared.Event.{Event}
use Rattle.model.specs.declared.Event.TheVariants as event
use Rattle.model.specs.declared.Refusal.TheVariants.{SetHeld}
use Rattle.rounds.specs.Waiting.{last_told}

module _ {T : Type 0} (C : SeenCalls T) where
  abbrev offered_turn : T → Turn T
  offered_turn t = C.offers (drain C t).left

  -- a round's offer was accepted or was not
  by_offer : (t : T) {X : Type 0} → (accepts (offered_turn t).events ≡ true → X) → (accepts (offered_turn t).events ≡ false → X) → X
  by_offer t a b = ⊎_elim a b (flag (accepts (offered_turn t).events))

  pub offers_few : (n : ℕ) (t : T) → length (rounds C n t).offers ≤ n
  unfolding rounds
  offers_few zero t = omega arith
  offers_few (suc n) t = let ih = offers_few n (offered_turn t).left in by_offer t (λ q. rw q (omega arith)) (λ q. rw q (omega arith))

  pub longer : (m n : ℕ) (t : T) → m ≤ n → any accepts (rounds C m t).offers ≡ true → rounds C n t ≡ rounds C m t
  unfolding rounds
  longer zero n t h a = absurd (false≢true a)
  longer (suc m) zero t h a = absurd (omega arith)
  longer (suc m) (suc n) t h a = by_offer t (λ q. rw q) (λ q. rw (q, longer m n (offered_turn t).left (omega arith) (rw q at a)))

  pub accepted_last : (n : ℕ) (t : T) (es : List Event) → any accepts (rounds C n t).offers ≡ true → accepts (last_told es (rounds C n t).offers) ≡ true
  unfolding rounds
  accepted_last zero t es a = absurd (false≢true a)
  accepted_last (suc n) t es a = by_offer t (λ q. rw q q) (λ q. rw q (accepted_last n (offered_turn t).left (offered_turn t).events (rw q at a)))

  pub marks_accepted : (n : ℕ) (t : T) → any accepts (rounds C n t).offers ≡ true → (j : ℕ) × (marks (rounds C n t) ≡ replicate j false ++ (true ∷ []))
  unfolding rounds
  marks_accepted zero t a = absurd (false≢true a)
  marks_accepted (suc n) t a =
      by_offer t (λ q. (0, rw q)) (λ q. let (j, e) = marks_accepted n (offered_turn t).left (rw q at a) in (suc j, rw (q, e)))

  -- round n + 1 was offered and refused, so all before it were
  pub marks_held : (n : ℕ) (t : T) → get_or (rounds C (suc n) t).offers n [] ≡ event.Refused SetHeld ∷ [] → marks (rounds C (suc n) t) ≡ replicate (suc n) false
  unfolding rounds
  marks_held zero t h = by_offer t (λ q. clash q (rw h)) (λ q. rw q)
  marks_held (suc n) t h = by_offer t (λ q. let z = rw q at h in cc) (λ q. rw (q, marks_held n (offered_turn t).left (rw q at h)))

  pub offers_first : (i n : ℕ) (t : T) → i < n → get_or (rounds C n t).offers i [] ≡ get_or (rounds C (suc i) t).offers i []
  unfolding rounds
  offers_first i zero t h = absurd (omega arith)
  offers_first zero (suc n) t h = refl
  offers_first (suc i) (suc n) t h = by_offer t (λ q. rw q) (λ q. rw q (offers_first i n (offered_turn t).left (omega arith)))
