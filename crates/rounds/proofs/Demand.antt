-- What an answer of `wait` says, by demand 3: accepted, no later than round max(1, q + m); held, refused as 6 in that round and in every
-- later one.
use Rattle.std.specs.Prelude.{Ok, Err}
use Rattle.words.proofs.General.{ℕ, suc, ◌+◌, ◌≤◌, arith, ◌≡◌, ap, ⊎_elim, true, false, List, [], ◌∷◌, length, get_or, flag, pick_both, clash}
use Rattle.model.proofs.Terms.{in_range, well_formed, Lent, lengths_fit, sound_lent, SeenCalls, accepts, Course, rounds, held_in, waits, seen_calls}
use Rattle.model.specs.declared.Settings.{Settings}
use Rattle.model.specs.declared.Access.{Access}
use Rattle.model.specs.declared.Event.{Event}
use Rattle.model.specs.declared.Event.TheVariants as event
use Rattle.model.specs.declared.Refusal.TheVariants.{SetHeld}
use Rattle.encoding.proofs.DecodeIsSound.{Small}
use Rattle.encoding.proofs.Demand.{demand_3_seen_lent}
use Rattle.rounds.specs.declared.Accepted.{Accepted}
use Rattle.rounds.specs.declared.NotAccepted.TheVariants.{Held}
use Rattle.rounds.specs.Waiting.{last_told, waiting_by, comes_to, wait_call}
use Rattle.rounds.proofs.Longer.{offers_few, accepted_last}

abbrev accepted_as : ℕ → Event → Accepted
accepted_as n e = record { round = n; answer = e }

said_round : (n m : ℕ) (es : List Event) (e : Event) → waiting_by n es ≡ Ok record { round = m; answer = e } → n ≡ m
said_round n m es e = pick_both (λ w. w ≡ Ok record { round = m; answer = e } → n ≡ m) (accepts es)
    (λ h. let same : accepted_as n (get_or es 0 event.Ticked) ≡ accepted_as m e = cc in ap (λ (a : Accepted). a.round) same)
    (λ h. cc)

said_held : (n : ℕ) (es : List Event) → waiting_by n es ≡ Err Held → accepts es ≡ false
said_held n es h = ⊎_elim (λ q. let z = rw q at h in cc) (λ q. q) (flag (accepts es))

module _ (S : Settings) (x : Access) (L : Lent) (range : in_range S ≡ true) (fits : lengths_fit S L ≡ true) (soundly : sound_lent S L ≡ true)
    (formed : well_formed x ≡ true) where
  abbrev C : SeenCalls Lent
  C = seen_calls S x

  abbrev ran : Course Lent
  ran = rounds C (suc (waits C L)) L

  abbrev last : List Event
  last = last_told (event.Refused SetHeld ∷ []) ran.offers

  -- no refusal comes before the first round
  wait_is : wait_call S x L ≡ comes_to ran
  unfolding wait_call
  wait_is = rw (range, fits, soundly, formed)

  pub accepted_in_time : (n : ℕ) (e : Event) → (wait_call S x L).waiting ≡ Ok record { round = n; answer = e } → n ≤ suc (waits (seen_calls S x) L)
  accepted_in_time n e h = omega (arith, said_round (length ran.offers) n last e (rw wait_is at h), offers_few C (suc (waits C L)) L)

  -- words are 32-bit numbers, as their type says (`Small`)
  pub held_for_ever : Small L → (wait_call S x L).waiting ≡ Err Held → (j : ℕ) → held_in (seen_calls S x) (waits (seen_calls S x) L + j) L
  held_for_ever small h =
      ⊎_elim
      (λ a. clash (accepted_last C (suc (waits C L)) L (event.Refused SetHeld ∷ []) a) (said_held (length ran.offers) last (rw wait_is at h)))
      (λ f. f)
      (demand_3_seen_lent S x L range fits small soundly formed).settles
