-- What a step told, without its refusals: 0x11 stands first or nowhere, and not in what an accepted step told, so what is written of a step
-- are the events of its turn.
use Rattle.words.proofs.General.{ℕ, ◌+◌, ◌≤◌, arith, ◌≡◌, refl, sym, ap, ◌∙◌, Bool, true, false, not, or-false, List, [], ◌++◌, map, length, length-append, take, pick, any, not_yes}
use Rattle.words.proofs.General.{no-not, any_append}
use Rattle.model.proofs.Terms.{Outcome, refused, done, accepted, events_of, events_told, log_bytes, took, refusing, queued_event}
use Rattle.model.specs.RecordsOf as records
use Rattle.model.specs.declared.Event.{Event}
use Rattle.model.specs.declared.Event.TheVariants as event
use Rattle.model.specs.declared.Reply.{Reply}
use Rattle.model.proofs.SeenRounds.{Clear, unrefused, queued_clear, released_clear}
use Rattle.model.proofs.Logs.{log_append}
use Rattle.records.specs.Stores.{Stored, Laid}
use Rattle.records.specs.Fitting.{AllFitting}
use Rattle.records.proofs.Stores.{was_stored, laid_then}
use Rattle.records.proofs.Reply.{fitting_append}
use Rattle.turns.specs.Parts.{is_refusal, noted, Noted}

-- ---- what a step told

refusing_is : (e : Event) → refusing e ≡ is_refusal e
refusing_is (event.Answered a l) = refl
refusing_is (event.Refused n) = refl
refusing_is (event.ReadQueued a) = refl
refusing_is (event.WriteBackQueued b m0 m1 m2 m3) = refl
refusing_is (event.Released k) = refl
refusing_is (event.ReadSent a) = refl
refusing_is (event.WriteBackSent b m0 m1 m2 m3) = refl
refusing_is (event.Filled a) = refl
refusing_is event.Ticked = refl

reply_refusing : (r : Reply) → any refusing (events_told r) ≡ is_refusal r.first
unfolding events_told
reply_refusing r =
    rw (
      any_append refusing (map queued_event (take r.queues r.queued)) (map event.Released (take r.count r.tickets)),
      queued_clear (take r.queues r.queued),
      released_clear (take r.count r.tickets),
      or-false,
      refusing_is r.first,
    )

-- what `accepted` said of an event
pub accepted_says : {b : Bool} (e : Event) → b ≡ not (is_refusal e) → b ≡ true → is_refusal e ≡ false
accepted_says e is h = not_yes (sym is ∙ h)

pub refused_says : {b : Bool} (e : Event) → b ≡ not (is_refusal e) → b ≡ false → is_refusal e ≡ true
refused_says e is h = no-not (sym is ∙ h)

module _ {T : Type 0} (o : Outcome T) (r : Reply) (clear : Clear unrefused o) (e : events_told r ≡ events_of o) where
  pub reply_accepted : accepted o ≡ not (is_refusal r.first)
  reply_accepted = sym clear.clear ∙ ap unrefused (sym e) ∙ ap not (reply_refusing r)

pub noted_took : {T : Type 0} (t : T) (o : Outcome T) (r : Reply) → Clear unrefused o → events_told r ≡ events_of o → noted r ≡ (took t o).events
noted_took t (refused n) r c e = let h : is_refusal r.first ≡ true = no-not (sym (reply_accepted (refused n) r c e)) in rw h
noted_took t (done es u) r c e = let h : is_refusal r.first ≡ false = not_yes (sym (reply_accepted (done es u) r c e)) in rw h e

-- ---- what is written of it

-- a refusal: nothing
pub noted-none : (e : List ℕ) (out : ℕ) (r : Reply) → is_refusal r.first ≡ true → Noted e out (noted r) out e
unfolding records.log_bytes
noted-none e out r h = rw h record { next = omega arith; slice = refl; fits = tt }

-- all that a call told, its refusal too
pub tells : (e : List ℕ) (out : ℕ) (r : Reply) {n : ℕ} {f : List ℕ} → out + length (log_bytes (events_told r)) ≤ length e
    → Stored e out (log_bytes (events_told r)) n f → AllFitting (events_told r) → Noted e out (events_told r) (out + n) f
tells e out r room s fits =
    let (count, slice) = was_stored e out (log_bytes (events_told r)) s room in record { next = omega arith; slice = slice; fits = fits }

pub noted-stored : (e : List ℕ) (out : ℕ) (r : Reply) {n : ℕ} {f : List ℕ} → is_refusal r.first ≡ false → out + length (log_bytes (events_told r)) ≤ length e
    → Stored e out (log_bytes (events_told r)) n f → AllFitting (events_told r) → Noted e out (noted r) (out + n) f
noted-stored e out r h room s fits = rw h (tells e out r room s fits)

abbrev laid : {e : List ℕ} {out : ℕ} {es : List Event} {w : ℕ} {f : List ℕ} → Noted e out es w f → Laid e out (length (log_bytes es)) (log_bytes es) w f
laid n = record { next = n.next; slice = n.slice }

pub noted_then : {e : List ℕ} {out : ℕ} (xs : List Event) {w : ℕ} {f : List ℕ} (ys : List Event) {v : ℕ} {h : List ℕ}
    → Noted e out xs w f → Noted f w ys v h → Noted e out (xs ++ ys) v h
noted_then xs ys u v =
    let both = laid_then (laid u) refl (laid v) in
    record {
      next = rw (log_append, length-append) both.next;
      slice = rw log_append both.slice;
      fits = fitting_append xs ys u.fits v.fits;
    }

-- at most as much as it told
pub noted-short : (r : Reply) (k : ℕ) {e : List ℕ} {out w : ℕ} {f : List ℕ} → length (log_bytes (events_told r)) ≤ k → Noted e out (noted r) w f → w ≤ out + k
unfolding records.log_bytes
noted-short r k {e} {out} {w} h n = let b : length (log_bytes (noted r)) ≤ k = few (is_refusal r.first) in omega (arith, n.next)
  where
    few : (b : Bool) → length (log_bytes (pick b [] (events_told r))) ≤ k
    few true = omega arith
    few false = h

-- of a refusal nothing
pub noted-refused : (r : Reply) {e : List ℕ} {out w : ℕ} {f : List ℕ} → is_refusal r.first ≡ true → Noted e out (noted r) w f → w ≤ out + 0
unfolding records.log_bytes
noted-refused r {e} {out} {w} h n = let q : length (log_bytes (noted r)) ≡ 0 = rw h in omega (arith, n.next)
