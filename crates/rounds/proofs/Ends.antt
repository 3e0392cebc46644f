-- What waiting comes to: the rounds on slices are those on the tables that they hold; refusals before the first round; room for the events.
use Rattle.std.specs.Prelude.{Err}
use Rattle.words.proofs.General.{ℕ, zero, suc, ◌≤◌, ◌<◌, zero-add, arith, ◌≡◌, refl, sym, ap, true, false, List, [], ◌∷◌, map, length, length-map, le-leb, lt-leb}
use Rattle.model.proofs.Terms.{well_formed, Tables, Outcome, refused, done, events_of, Lent, encoded, check_call, events_told, log_bytes, wait_room, Calls, steps, calls, Turn}
use Rattle.model.proofs.Terms.{outcome_go_on, outcome_drain, outcome_rounds, accepts, waits, seen_calls, Encodes, SoundSlices}
use Rattle.model.specs.RecordsOf as records
use Rattle.model.specs.declared.Settings.{Settings}
use Rattle.model.specs.declared.Access.{Access}
use Rattle.model.specs.declared.Refusal.{Refusal}
use Rattle.model.specs.declared.Refusal.TheVariants.{BadAccess, SetHeld}
use Rattle.model.specs.declared.Event.TheVariants as event
use Rattle.model.specs.declared.Reply.{Reply}
use Rattle.model.proofs.SeenRounds.{Clear, access_clear, lent_offers, lent_turn}
use Rattle.encoding.proofs.Bridge.{is_tables, is_fits, is_sound-lent}
use Rattle.encoding.proofs.LentRounds.{run_of, rounds_encoded}
use Rattle.encoding.proofs.Demand.{steps_keep}
use Rattle.records.specs.Stores.{Stored}
use Rattle.soundness.specs.Laid.{Checks}
use Rattle.std.specs.Prelude.{Result, Ok, Err}
use Rattle.layout.specs.declared.geometry.Geometry.{Geometry}
use Rattle.soundness.proofs.Checked.{says_refused}
use Rattle.tables.specs.Telling.{telling}
use Rattle.rounds.specs.declared.NotAccepted.TheVariants as wait
use Rattle.rounds.specs.declared.Waited.{Waited}
use Rattle.rounds.specs.Waiting.{last_told, waiting_by, refusal_in, last_offer, waiting_of, refusal_told, settled, turned_away, enough_rounds, wait_call, wait_within, Waits}
use Rattle.turns.specs.Parts.{Enough}
use Rattle.rounds.specs.Parts.{lent_wait, RoundsSettle, TurnsAway, WaitsHeld}
use Rattle.rounds.proofs.Written.{noted-written, refusal_noted}
use Rattle.rounds.proofs.Starting.{verdict_refused}

-- ---- the rounds as they are seen on slices, and those on the tables, whose calls come to outcomes

module _ {T : Type 0} where
  last-told : (o : Outcome T) (os : List (Outcome T)) → last_told (events_of o) (map events_of os) ≡ events_of (last_offer o os)
  last-told o [] = refl
  last-told o (p ∷ os) = last-told p os

  said_same : (n : ℕ) (o : Outcome T) → Clear accepts o → (waiting_by n (events_of o) ≡ waiting_of n o) × (refusal_in (events_of o) ≡ refusal_told o)
  said_same n (refused k) c = (refl, refl)
  said_same n (done es u) c = rw c.clear (refl, refl)

module _ {T : Type 0} (C : Calls T) (clear : (t : T) → Clear accepts (C.offers t)) where
  last_clear : (n : ℕ) (t : T) (d : Outcome T) → Clear accepts d → Clear accepts (last_offer d (outcome_rounds C n t).offers)
  unfolding outcome_rounds
  last_clear zero t d c = c
  last_clear (suc n) t d c = go (C.offers (outcome_drain C t).left) (clear (outcome_drain C t).left) (last_clear n (outcome_drain C t).left)
    where
      go : (o : Outcome T) → Clear accepts o → ((e : Outcome T) → Clear accepts e → Clear accepts (last_offer e (outcome_rounds C n (outcome_drain C t).left).offers))
          → Clear accepts (last_offer d (outcome_go_on (outcome_drain C t) (outcome_rounds C n) o).offers)
      go (refused k) k-clear ih = ih (refused k) k-clear
      go (done es u) o-clear ih = o-clear

told-encoded : (S : Settings) (os : List (Outcome Tables)) → map events_of (map (encoded S) os) ≡ map events_of os
told-encoded S [] = refl
told-encoded S (refused k ∷ os) = rw (told-encoded S os)
told-encoded S (done es u ∷ os) = rw (told-encoded S os)

module _ (S : Settings) (x : Access) (L : Lent) (t : Tables) (i : Encodes S L t) where
  checked_done : check_call S L ≡ done [] L
  checked_done = rw (i.range, is_fits S L t i, is_sound-lent S L t i)

  enough_encoded : {n : ℕ} → Enough S L n → enough_rounds S x L ≡ lent_wait S (settled (outcome_rounds (steps S x) n t))
  enough_encoded {n} e =
      let run = outcome_rounds (steps S x) n t in
      let w : suc (waits (seen_calls S x) L) ≡ n = rw (is_tables S L t i) (sym (e.on t i)) in
      let lent : outcome_rounds (calls S x) n L ≡ run_of S run = rw i.encoded (rounds_encoded S x i.range (steps_keep S) n t i.soundly) in
      let offers = rw (lent, told-encoded S run.offers) at (lent_offers S x n L) in
      let turn = rw lent at (lent_turn S x n L) in
      let (says, refusal) = said_same (length run.offers) (last_offer (refused SetHeld) run.offers)
      (last_clear (steps S x) (access_clear S x) n t (refused SetHeld) record { clear = refl }) in
      rw (
        w,
        ap (λ (a : Turn Lent). a.events) turn,
        ap (λ (a : Turn Lent). a.left) turn,
        offers,
        last-told (refused SetHeld) run.offers,
        length-map,
        says,
        refusal,
      )

  pub wait_formed : well_formed x ≡ true → {n : ℕ} → Enough S L n → wait_call S x L ≡ lent_wait S (settled (outcome_rounds (steps S x) n t))
  unfolding wait_call
  wait_formed f e = rw (checked_done, f) (enough_encoded e)

  pub wait_malformed : well_formed x ≡ false → wait_call S x L ≡ turned_away BadAccess L
  unfolding wait_call
  wait_malformed f = rw (checked_done, f)

-- ---- behind the check of refusals 1, 2 and 3

module _ {S : Settings} {x : Access} {L : Lent} {e : List ℕ} {r : Waited} {f : List ℕ} where
  pub waits_rounds : well_formed x ≡ true → {M : Lent} {n : ℕ} → Enough S L n → RoundsSettle S x n L e r f M → WaitsHeld S x L e r f M
  waits_rounds formed enough s = record { on = λ t i. rw (wait_formed S x L t i formed enough) (s.on t i) }

  pub waits_malformed : well_formed x ≡ false → TurnsAway BadAccess e r f → WaitsHeld S x L e r f L
  waits_malformed formed s = record { on = λ t i. rw (wait_malformed S x L t i formed) (s.on L) }

-- ---- a refusal before the first round

pub turns_away : (n : Refusal) (e : List ℕ) {reply : Reply} → reply ≡ telling (event.Refused n) → {w : ℕ} {f : List ℕ} → Stored e 0 (log_bytes (events_told reply)) w f
    → wait_room ≤ length e → TurnsAway n e record { waiting = Err (wait.Refused n); written = w } f
turns_away n e is s room =
    let (two, noted) = refusal_noted n e 0 is s (omega arith) in
    let (bytes, events, back) = noted-written (event.Refused n ∷ []) e (rw zero-add at noted) (omega arith) in
    record { on = λ L. record { waiting = refl; written = bytes; events = events; reads = back; left = refl } }

-- ---- the call

module _ (S : Settings) (x : Access) (L : Lent) (e : List ℕ) where
  roomy : wait_room ≤ length e → wait_within (length e) S x L ≡ wait_call S x L
  roomy h = rw (le-leb wait_room (length e) h)

  pub waits_no-room : length e < wait_room → Waits (wait_within (length e) S x L) e record { waiting = Err wait.NoRoom; written = 0 } e L
  unfolding records.log_bytes records.events_in records.events_from
  waits_no-room h = rw (lt-leb wait_room (length e) h) record { waiting = refl; written = refl; events = refl; reads = refl; left = refl }

  pub waits_refused : {v : Result Geometry Refusal} {n : Refusal} {r : Waited} {f : List ℕ} → wait_room ≤ length e → Checks S L v → v ≡ Err n
      → TurnsAway n e r f → Waits (wait_within (length e) S x L) e r f L
  unfolding wait_call
  waits_refused h checks is t = rw (roomy h, verdict_refused (check_call S L) (says_refused S L checks is)) (t.on L)

  pub waits_passed : {r : Waited} {f : List ℕ} {M : Lent} → wait_room ≤ length e → SoundSlices S L → WaitsHeld S x L e r f M
      → Waits (wait_within (length e) S x L) e r f M
  waits_passed h held w = rw (roomy h) (w.on held.tables held.are)
