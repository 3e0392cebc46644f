-- The shape of a value that tells what a step on tables tells: which event it begins with, and how many entries and tickets it has.
use Rattle.words.proofs.General.{ℕ, ◌≤◌, arith, ◌≡◌, refl, sym, ap, ◌∙◌, Bool, true, false, ◌&&◌, ◌||◌, List, [], ◌∷◌, ◌++◌, map, length, take, replicate, length-take, eqb, ltb}
use Rattle.words.proofs.General.{all, any, pad_to, and_1, and_2, pick_both, clash, in_all, all_append, all_map, length-pad_to}
use Rattle.model.proofs.Terms.{Tables, idle, Outcome, events_of, Lent, last_cycle, rule_of, queues, queued_as, queued_event, sent_as, accept, access, send, tickets_of, sent_for, fill}
use Rattle.model.proofs.Terms.{tick, events_told, in_two, tidied, record_kind_of, SoundSlices, Does, of_access, of_send, of_fill, of_tick, Shaped}
use Rattle.model.specs.Kinds as kinds
use Rattle.model.specs.declared.Settings.{Settings}
use Rattle.model.specs.declared.Access.{Access}
use Rattle.model.specs.declared.Queued.{Queued}
use Rattle.model.specs.declared.QueueKind.{QueueKind}
use Rattle.model.specs.declared.QueueKind.TheVariants as queue
use Rattle.model.specs.declared.Event.{Event}
use Rattle.model.specs.declared.Event.TheVariants.{Released}
use Rattle.model.specs.declared.Reply.{Reply}
use Rattle.model.proofs.Answers.{by_kind}
use Rattle.model.proofs.AccessCases.{access_judged}
use Rattle.model.proofs.SendFillKeepSound.{send-cases}
use Rattle.encoding.proofs.Bridge.{does_tells}

-- ---- the events behind the first

-- an entry queued
abbrev queuing : Event → Bool
queuing e = any (eqb (record_kind_of e)) (kinds.read_queued ∷ kinds.write_back_queued ∷ [])

-- a ticket released
abbrev releasing : Event → Bool
releasing e = eqb (record_kind_of e) kinds.released

abbrev none : Event → Bool
none e = false

queued_as_lem : (k : QueueKind) (a : ℕ) (ms : List ℕ) → (queuing (queued_as k a ms) ≡ true) × (releasing (queued_as k a ms) ≡ false)
queued_as_lem queue.Read a ms = (refl, refl)
queued_as_lem queue.WriteBack a ms = (refl, refl)

all_made : {A : Type 0} (f : A → Event) (p : Event → Bool) → ((a : A) → p (f a) ≡ true) → (xs : List A) → all p (map f xs) ≡ true
all_made f p each xs = rw all_map (in_all _ xs (λ a m. each a))

-- ---- what an outcome tells

-- its first event is such a one, and all behind that are such others
abbrev tells : (Event → Bool) → (Event → Bool) → List Event → Bool
tells begins rest [] = false
tells begins rest (e ∷ es) = begins e && all rest es

record TellsShape (begins rest : Event → Bool) (es : List Event) : Type 0 where
  pub is : tells begins rest es ≡ true

access-tells : (S : Settings) (x : Access) (t : Tables) → TellsShape of_access queuing (events_of (access S x t))
unfolding access accept
access-tells S x t =
    access_judged (rule_of S) S t x (λ (o : Outcome Tables). TellsShape of_access queuing (events_of o)) (λ n. record { is = refl }) (λ p j. record { is = all_made queued_event queuing (λ q. (queued_as_lem q.kind q.address q.masks).0) (queues x p) })

send-tells : (t : Tables) → TellsShape of_send none (events_of (send t))
send-tells t =
    send-cases t (λ (o : Outcome Tables). TellsShape of_send none (events_of o)) (λ n. record { is = refl }) (λ x q e. record { is = rw (by_kind (λ k. of_send (sent_as k x.address x.masks) ≡ true) refl refl x.kind) })

fill-tells : (a : ℕ) (t : Tables) → TellsShape of_fill releasing (events_of (fill a t))
unfolding fill
fill-tells a t = pick_both (λ (o : Outcome Tables). TellsShape of_fill releasing (events_of o)) (any (sent_for a) t.misses) record { is = all_made Released releasing (λ k. refl) (tickets_of a t.misses) } record { is = refl }

tick-tells : (c : ℕ) (t : Tables) → TellsShape of_tick none (events_of (tick c t))
unfolding tick
tick-tells c t = pick_both (λ (o : Outcome Tables). TellsShape of_tick none (events_of o)) (ltb c t.now || ltb last_cycle c) record { is = refl } record { is = refl }

-- ---- the shape of a value

none_left : {A : Type 0} (f : A → Event) (p : Event → Bool) → ((a : A) → p (f a) ≡ false) → (xs : List A) → all p (map f xs) ≡ true → length xs ≡ 0
none_left f p never [] h = refl
none_left f p never (x ∷ xs) h = clash (and_1 (p (f x)) _ h) (never x)

-- of a value that tells such events
module _ (r : Reply) (tidy : tidied r ≡ r) {begins rest : Event → Bool} (t : TellsShape begins rest (events_told r)) where
  begins_so : begins r.first ≡ true
  unfolding events_told
  begins_so = and_1 (begins r.first) _ t.is

  queues_are : r.queues ≡ length (take r.queues r.queued)
  unfolding tidied
  queues_are = sym (ap (λ (x : Reply). x.queues) tidy)

  count_is : r.count ≡ length (take r.count r.tickets)
  unfolding tidied
  count_is = sym (ap (λ (x : Reply). x.count) tidy)

  queues_few : r.queues ≤ 2
  unfolding tidied
  queues_few =
      let two : List Queued = take r.queues r.queued in
      let q : r.queued ≡ in_two two = sym (ap (λ (x : Reply). x.queued) tidy) in
      omega (arith, queues_are, length-take r.queues r.queued, ap length q, length-take 2 (two ++ replicate 2 idle))

  tickets_few : r.count ≤ 8
  unfolding tidied
  tickets_few =
      let q : r.tickets ≡ pad_to 8 (take r.count r.tickets) = sym (ap (λ (x : Reply). x.tickets) tidy) in
      omega (arith, count_is, length-take r.count r.tickets, ap length q, length-pad_to 8 (take r.count r.tickets))

  abbrev entries : List Event
  entries = map queued_event (take r.queues r.queued)

  apart : (all rest entries && all rest (map Released (take r.count r.tickets))) ≡ true
  unfolding events_told
  apart = sym (all_append rest entries (map Released (take r.count r.tickets))) ∙ and_2 (begins r.first) _ t.is

  no_entries : ((q : Queued) → rest (queued_event q) ≡ false) → r.queues ≤ 0
  no_entries never = omega (arith, none_left queued_event rest never (take r.queues r.queued) (and_1 (all rest entries) _ apart), queues_are)

  no_tickets : ((k : ℕ) → rest (Released k) ≡ false) → r.count ≤ 0
  no_tickets never = omega (arith, none_left Released rest never (take r.count r.tickets) (and_2 (all rest entries) _ apart), count_is)

-- ---- the shape of what each step tells

module _ (S : Settings) {L : Lent} (held : SoundSlices S L) {r : Reply} {M : Lent} where
  module _ {step : Tables → Outcome Tables} (d : Does S step L r M) where
    tidy : tidied r ≡ r
    tidy = (d.on held.tables held.are).tidy

    told : {begins rest : Event → Bool} → TellsShape begins rest (events_of (step held.tables)) → TellsShape begins rest (events_told r)
    told t = rw (does_tells S d held.tables held.are) t

    -- one event, and nothing else
    alone-shaped : {begins : Event → Bool} → TellsShape begins none (events_of (step held.tables)) → Shaped begins 0 0 r
    alone-shaped t = record {
      first = begins_so r tidy (told t);
      entries = no_entries r tidy (told t) (λ q. refl);
      tickets = no_tickets r tidy (told t) (λ k. refl);
    }

  pub access_shaped : (x : Access) → Does S (access S x) L r M → Shaped of_access 2 0 r
  access_shaped x d =
      let t = told d (access-tells S x held.tables) in
      record { first = begins_so r (tidy d) t; entries = queues_few r (tidy d) t; tickets = no_tickets r (tidy d) t (λ k. refl) }

  pub send_shaped : Does S send L r M → Shaped of_send 0 0 r
  send_shaped d = alone-shaped d (send-tells held.tables)

  pub fill_shaped : (a : ℕ) → Does S (fill a) L r M → Shaped of_fill 0 8 r
  fill_shaped a d =
      let t = told d (fill-tells a held.tables) in
      record {
        first = begins_so r (tidy d) t;
        entries = no_entries r (tidy d) t (λ q. (queued_as_lem q.kind q.address q.masks).1);
        tickets = tickets_few r (tidy d) t;
      }

  pub tick_shaped : (c : ℕ) → Does S (tick c) L r M → Shaped of_tick 0 0 r
  tick_shaped c d = alone-shaped d (tick-tells c held.tables)
