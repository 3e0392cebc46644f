-- Demand 3 of calls as they are seen. The struck rounds come to the same as the rounds for calls whose refused offer leaves the tables as
-- they were and tells only refusals, and for no others; the calls of document 01 are such, and their rounds settle as `Bound` says.
use Rattle.words.proofs.General.{ℕ, zero, suc, ◌+◌, arith, ◌≡◌, refl, sym, ap, subst, ◌∙◌, inl, inr, ⊎_elim, Bool, true, false, not, false≢true, List, [], ◌∷◌, ◌++◌, map}
use Rattle.words.proofs.General.{append-nil, length, get_or, List·getD-map, length-append, any, and_2, flag, pick_both, not_yes, clash, or_no_1, or_no_2, by_suc}
use Rattle.model.proofs.Terms.{in_range, well_formed, Entry, Tables, Outcome, refused, done, after, accepted, events_of, with_now, Lent, lengths_fit, tables_of, sound, sound_lent}
use Rattle.model.proofs.Terms.{rule_of, queues, queued_as, queued_event, accept, access, sent_as, send, tickets_of, sent_for, fill, encoded, call, Calls, Turn, still, took}
use Rattle.model.proofs.Terms.{is_empty, steps, calls, Settles, outcome_drain, outcome_fill, outcome_go_on, outcome_held, outcome_rounds, outcome_send, SeenCalls, answering}
use Rattle.model.proofs.Terms.{refusing, accepts, but11, comparable, Course, go_on, marks, send_turn, fill_first, drain, rounds, struck, held_in, waits, Demand3, seen}
use Rattle.model.proofs.Terms.{seen_steps, seen_calls}
use Rattle.model.specs.declared.Settings.{Settings}
use Rattle.model.specs.declared.Queued.{Queued}
use Rattle.model.specs.declared.Access.{Access}
use Rattle.model.specs.declared.Event.{Event}
use Rattle.model.specs.declared.Event.TheVariants as event
use Rattle.model.specs.declared.Refusal.{Refusal}
use Rattle.model.specs.declared.Refusal.TheVariants.{SetHeld}
use Rattle.model.proofs.Answers.{by_kind}
use Rattle.model.proofs.AccessCases.{access_judged}
use Rattle.model.proofs.SendFillKeepSound.{send-cases}
use Rattle.model.proofs.Bound.{rounds_settled}

-- ---- events but 0x11

pub but11-append : (es fs : List Event) → but11 (es ++ fs) ≡ but11 es ++ but11 fs
but11-append [] fs = refl
but11-append (e ∷ es) fs = ⊎_elim (λ q. rw q (rw (but11-append es fs))) (λ q. rw q (but11-append es fs)) (flag (not (refusing e)))

-- ---- the struck rounds

-- an offer that is refused tells nothing but its refusal, and leaves the tables as they were
pub record Quiet {T : Type 0} (C : SeenCalls T) : Type 0 where
  pub tells : (t : T) → accepts (C.offers t).events ≡ false → but11 (C.offers t).events ≡ []
  pub leaves : (t : T) → accepts (C.offers t).events ≡ false → (C.offers t).left ≡ t

module _ {T : Type 0} (C : SeenCalls T) (quiet : Quiet C) where
  struck_round : (t : T) (rest : T → Course T) → ((u : T) → comparable (struck C (marks (rest u)) u) ≡ comparable (rest u).turn)
      → (a : Turn T) → drain C t ≡ a → (o : Turn T) → C.offers a.left ≡ o → (b : Bool) → accepts o.events ≡ b
      → comparable (struck C (marks (go_on a o rest)) t) ≡ comparable (go_on a o rest).turn
  unfolding struck
  struck_round t rest ih a d o e true q = rw (q, d, e)
  struck_round t rest ih a d o e false q =
      let p : but11 o.events ≡ [] = subst (λ (v : Turn T). but11 v.events ≡ []) e (quiet.tells a.left (subst (λ (v : Turn T). accepts v.events ≡ false) (sym e) q)) in
      let l : o.left ≡ a.left = subst (λ (v : Turn T). v.left ≡ a.left) e (quiet.leaves a.left (subst (λ (v : Turn T). accepts v.events ≡ false) (sym e) q)) in
      rw (q, d, l, but11-append, but11-append, but11-append, p)
      (ap (λ (v : Turn T). record { events = but11 a.events ++ v.events; left = v.left }) (ih a.left))

  pub struck_same : (n : ℕ) (t : T) → comparable (struck C (marks (rounds C n t)) t) ≡ comparable (rounds C n t).turn
  unfolding rounds struck
  struck_same zero t = refl
  struck_same (suc n) t =
      struck_round t (rounds C n) (struck_same n) (drain C t) refl (C.offers (drain C t).left) refl (accepts (C.offers (drain C t).left).events) refl

-- ---- a step is accepted where its events pass p

module _ {T : Type 0} (p : List Event → Bool) where
  pub record Clear (o : Outcome T) : Type 0 where
    pub clear : p (events_of o) ≡ accepted o

-- of a send and a fill: no event of kind 0x11
abbrev pub unrefused : List Event → Bool
unrefused es = not (any refusing es)

-- an offer's events are accepted, so none is 0x11
pub unrefused_too : {T : Type 0} (o : Outcome T) → Clear accepts o → Clear unrefused o
unrefused_too (refused n) c = record { clear = refl }
unrefused_too (done es u) c = record { clear = and_2 (any answering es) (not (any refusing es)) c.clear }

pub send_clear : (t : Tables) → Clear unrefused (send t)
send_clear t =
    send-cases t (Clear unrefused) (λ n. record { clear = refl }) (λ x q e. record { clear = rw (by_kind (λ k. refusing (sent_as k x.address x.masks) ≡ false) refl refl x.kind) })

pub released_clear : (ks : List ℕ) → any refusing (map event.Released ks) ≡ false
released_clear [] = refl
released_clear (k ∷ ks) = released_clear ks

pub fill_clear : (a : ℕ) (t : Tables) → Clear unrefused (fill a t)
unfolding fill
fill_clear a t =
    pick_both (Clear unrefused) (any (sent_for a) t.misses) record { clear = ap not (released_clear (tickets_of a t.misses)) } record { clear = refl }

pub queued_clear : (qs : List Queued) → any refusing (map queued_event qs) ≡ false
queued_clear [] = refl
queued_clear (q ∷ qs) = rw (by_kind (λ k. refusing (queued_as k q.address q.masks) ≡ false) refl refl q.kind) (queued_clear qs)

pub access_clear : (S : Settings) (x : Access) (t : Tables) → Clear accepts (access S x t)
unfolding access accept
access_clear S x t =
    access_judged (rule_of S) S t x (Clear accepts) (λ n. record { clear = refl }) (λ p j. record { clear = ap not (queued_clear (queues x p)) })

encoded_clear : (p : List Event → Bool) (S : Settings) (o : Outcome Tables) → Clear p o → Clear p (encoded S o)
encoded_clear p S (refused n) c = record { clear = c.clear }
encoded_clear p S (done es u) c = record { clear = c.clear }

pub call_clear : (p : List Event → Bool) → ((n : Refusal) → p (event.Refused n ∷ []) ≡ false) → (S : Settings) (step : Tables → Outcome Tables) (L : Lent)
    → ((t : Tables) → Clear p (step t)) → Clear p (call S step L)
unfolding call
call_clear p none S step L c =
    pick_both (Clear p) (in_range S)
    (pick_both (Clear p) (lengths_fit S L)
    (pick_both (Clear p) (sound_lent S L) (encoded_clear p S (step (tables_of S L)) (c (tables_of S L))) record { clear = none _ })
    record { clear = none _ })
    record { clear = none _ }

-- ---- calls that come to outcomes: "Every refusal returns its number and leaves all tables unchanged."

abbrev acts_of : {T : Type 0} → Calls T → SeenCalls T
acts_of C = record { sends = λ t. seen t (C.sends t); fills = λ a t. seen t (C.fills a t); offers = λ t. seen t (C.offers t); tables = C.tables }

pub took_left : {T : Type 0} (t : T) (o : Outcome T) → (took t o).left ≡ after t o
took_left t (refused n) = refl
took_left t (done es u) = refl

module _ {T : Type 0} (C : Calls T) (clear : (t : T) → Clear accepts (C.offers t)) where
  abbrev A : SeenCalls T
  A = acts_of C

  quiet_acts : Quiet A
  quiet_acts = record { tells = λ t h. (refused-quiet t (C.offers t) (clear t) h).0; leaves = λ t h. (refused-quiet t (C.offers t) (clear t) h).1 }
    where
      refused-quiet : (t : T) (o : Outcome T) → Clear accepts o → accepts (events_of o) ≡ false → (but11 (events_of o) ≡ []) × (after t o ≡ t)
      refused-quiet t (refused n) c h = (refl, refl)
      refused-quiet t (done es u) c h = clash c.clear h

  -- ---- the tables and the offers are those of the rounds that `Bound` speaks of

  sent_left : (t : T) → (send_turn A t).left ≡ (outcome_send C t).left
  unfolding send_turn outcome_send
  sent_left t = ⊎_elim (λ q. rw q) (λ q. rw q (sym (took_left t (C.sends t)))) (flag (is_empty (C.tables t).queue))

  filled_left : (es : List Entry) (t : T) → (fill_first A es t).left ≡ (outcome_fill C es t).left
  unfolding fill_first outcome_fill
  filled_left [] t = refl
  filled_left (e ∷ es) t = ⊎_elim (λ q. rw q (sym (took_left t (C.fills e.address t)))) (λ q. rw q (filled_left es t)) (flag e.sent)

  drained_left : (t : T) → (drain A t).left ≡ (outcome_drain C t).left
  unfolding drain outcome_drain
  drained_left t = rw (sent_left t) (filled_left (C.tables (outcome_send C t).left).misses (outcome_send C t).left)

  -- the offers of n rounds, and whether one of them is accepted
  abbrev SameOffers : List (List Event) → List (Outcome T) → Type 0
  SameOffers es os = (es ≡ map events_of os) × (any accepts es ≡ any accepted os)

  rounds_offers : (n : ℕ) (t : T) → SameOffers (rounds A n t).offers (outcome_rounds C n t).offers
  unfolding rounds outcome_rounds
  rounds_offers zero t = (refl, refl)
  rounds_offers (suc n) t = rw (drained_left t) (go (C.offers (outcome_drain C t).left) (clear (outcome_drain C t).left) (rounds_offers n (outcome_drain C t).left))
    where
      go : (o : Outcome T) → Clear accepts o → SameOffers (rounds A n (outcome_drain C t).left).offers (outcome_rounds C n (outcome_drain C t).left).offers
          → SameOffers (go_on (drain A t) (seen (outcome_drain C t).left o) (rounds A n)).offers (outcome_go_on (outcome_drain C t) (outcome_rounds C n) o).offers
      go (refused k) c ih = (ap (λ (os : List (List Event)). (event.Refused k ∷ []) ∷ os) ih.0, ih.1)
      go (done es v) c ih = rw c.clear (refl, refl)

  held_seen : (n : ℕ) (t : T) → outcome_held C n t → held_in A n t
  held_seen n t h = rw (rounds_offers (suc n) t).0 (List·getD-map events_of (outcome_rounds C (suc n) t).offers n (done [] t) ∙ ap events_of h)

  pub demand_seen : (t : T) → Settles C t → Demand3 A t
  demand_seen t d = record {
    settles = ⊎_elim
        (λ h. inl ((rounds_offers (suc (waits A t)) t).1 ∙ h))
        (λ h. inr (λ j. held_seen (waits A t + j) t (h j)))
        d.settles;
    strikes = λ n. struck_same A quiet_acts n t;
  }

-- ---- the same turns, with 0x11 left out

but11_clear : (es : List Event) → any refusing es ≡ false → but11 es ≡ es
but11_clear [] h = refl
but11_clear (e ∷ es) h =
    rw (or_no_1 (refusing e) (any refusing es) h) (ap (λ (l : List Event). e ∷ l) (but11_clear es (or_no_2 (refusing e) (any refusing es) h)))

seen_took : {T : Type 0} (t : T) (o : Outcome T) → Clear unrefused o → comparable (seen t o) ≡ took t o
seen_took t (refused n) c = refl
seen_took t (done es u) c = rw (but11_clear es (not_yes {b = any refusing es} c.clear))

pub record ClearCalls {T : Type 0} (C : Calls T) : Type 0 where
  pub sends : (t : T) → Clear unrefused (C.sends t)
  pub fills : (a : ℕ) (t : T) → Clear unrefused (C.fills a t)
  pub offers : (t : T) → Clear accepts (C.offers t)

module _ {T : Type 0} (C : Calls T) (clear : ClearCalls C) where
  sent_same : (t : T) → comparable (send_turn (acts_of C) t) ≡ outcome_send C t
  unfolding send_turn outcome_send
  sent_same t = ⊎_elim (λ q. rw q) (λ q. rw q (seen_took t (C.sends t) (clear.sends t))) (flag (is_empty (C.tables t).queue))

  filled-same : (es : List Entry) (t : T) → comparable (fill_first (acts_of C) es t) ≡ outcome_fill C es t
  unfolding fill_first outcome_fill
  filled-same [] t = refl
  filled-same (e ∷ es) t = ⊎_elim (λ q. rw q (seen_took t (C.fills e.address t) (clear.fills e.address t))) (λ q. rw q (filled-same es t)) (flag e.sent)

  drained_same : (t : T) → comparable (drain (acts_of C) t) ≡ outcome_drain C t
  unfolding drain outcome_drain
  drained_same t =
      rw (← sent_same t, ← filled-same (C.tables (send_turn (acts_of C) t).left).misses (send_turn (acts_of C) t).left, but11-append)

  rounds_turn : (n : ℕ) (t : T) → comparable (rounds (acts_of C) n t).turn ≡ (outcome_rounds C n t).turn
  unfolding rounds outcome_rounds
  rounds_turn zero t = refl
  rounds_turn (suc n) t =
      rw (← drained_same t)
      (go (drain (acts_of C) t) (C.offers (drain (acts_of C) t).left) (clear.offers (drain (acts_of C) t).left) (rounds_turn n (drain (acts_of C) t).left))
    where
      go : (a : Turn T) (o : Outcome T) → Clear accepts o → comparable (rounds (acts_of C) n a.left).turn ≡ (outcome_rounds C n a.left).turn
          → comparable (go_on a (seen a.left o) (rounds (acts_of C) n)).turn ≡ (outcome_go_on (comparable a) (outcome_rounds C n) o).turn
      go a (refused k) c ih = rw but11-append (ap (λ (v : Turn T). record { events = but11 a.events ++ v.events; left = v.left }) ih)
      go a (done es v) c ih =
          rw (c.clear, append-nil, but11-append, but11_clear es (not_yes {b = any refusing es} (unrefused_too (done es v) c).clear))

pub calls_clear : (S : Settings) (x : Access) → ClearCalls (calls S x)
calls_clear S x = record {
  sends = λ L. call_clear unrefused (λ n. refl) S send L send_clear;
  fills = λ a L. call_clear unrefused (λ n. refl) S (fill a) L (fill_clear a);
  offers = λ L. call_clear accepts (λ n. refl) S (access S x) L (access_clear S x);
}

-- the rounds on slices, as they are seen, are those of the calls as outcomes
pub lent_offers : (S : Settings) (x : Access) (n : ℕ) (L : Lent) → (rounds (seen_calls S x) n L).offers ≡ map events_of (outcome_rounds (calls S x) n L).offers
lent_offers S x n L = (rounds_offers (calls S x) (calls_clear S x).offers n L).0

pub lent_turn : (S : Settings) (x : Access) (n : ℕ) (L : Lent) → comparable (rounds (seen_calls S x) n L).turn ≡ (outcome_rounds (calls S x) n L).turn
lent_turn S x = rounds_turn (calls S x) (calls_clear S x)

pub lent_accepted : (S : Settings) (x : Access) (n : ℕ) (L : Lent) → any accepts (rounds (seen_calls S x) n L).offers ≡ any accepted (outcome_rounds (calls S x) n L).offers
lent_accepted S x n L = (rounds_offers (calls S x) (calls_clear S x).offers n L).1

-- ---- demand 3: any settings in range, any sound tables, any well-formed access

pub demand_3_seen : (S : Settings) (x : Access) (t : Tables) → in_range S ≡ true → sound S t ≡ true → well_formed x ≡ true → Demand3 (seen_steps S x) t
demand_3_seen S x t range soundly formed = demand_seen (steps S x) (access_clear S x) t (rounds_settled S x t range soundly formed)

-- ---- what demand 3 turns away

-- where the first offer is refused, demand 3 says that it left the tables as it got them
pub demand_3_leaves : {T : Type 0} (C : SeenCalls T) (t : T) → Demand3 C t → accepts (C.offers (drain C t).left).events ≡ false
    → (C.offers (drain C t).left).left ≡ (drain C t).left
unfolding rounds struck
demand_3_leaves {T} C t d h = sym (ap (λ (a : Turn T). a.left) (rw h at (d.strikes 1)))

no_more : (es fs : List Event) → es ++ fs ≡ es → fs ≡ []
no_more es [] e = refl
no_more es (f ∷ fs) e = absurd (omega (arith, simp length-append at (ap length e)))

-- and told nothing but its refusal
pub demand_3_tells : {T : Type 0} (C : SeenCalls T) (t : T) → Demand3 C t → accepts (C.offers (drain C t).left).events ≡ false
    → but11 (C.offers (drain C t).left).events ≡ []
unfolding rounds struck
demand_3_tells {T} C t d h =
    let o = C.offers (drain C t).left in
    let e : but11 ((drain C t).events ++ []) ≡ but11 ((drain C t).events ++ (o.events ++ [])) = ap (λ (a : Turn T). a.events) (rw h at (d.strikes 1)) in
    no_more (but11 (drain C t).events) (but11 o.events) (sym (simp (append-nil, but11-append) at e))

-- a library whose send and fill do nothing and whose offers are refused as 6, which moves the current cycle
abbrev pub leaky : SeenCalls Tables
leaky = record { sends = λ t. still t; fills = λ a t. still t; offers = λ t. record { events = event.Refused SetHeld ∷ []; left = with_now (suc t.now) t }; tables = λ t. t }

pub not_demand_3_of_a_leaky_library : (t : Tables) → Demand3 leaky t → ⊥
not_demand_3_of_a_leaky_library t d =
    let e : suc (drain leaky t).left.now ≡ (drain leaky t).left.now = ap (λ (u : Tables). u.now) (demand_3_leaves leaky t d refl) in
    omega arith

-- a library whose calls tell nothing and leave everything as it was
abbrev pub silent : SeenCalls Tables
silent = record { sends = λ t. still t; fills = λ a t. still t; offers = λ t. still t; tables = λ t. t }

silent_offers : (n : ℕ) (t : Tables) → (any accepts (rounds silent n t).offers ≡ false) × ((i : ℕ) → get_or (rounds silent n t).offers i [] ≡ [])
unfolding rounds
silent_offers zero t = (refl, λ i. refl)
silent_offers (suc n) t =
    let (none, told) = silent_offers n (drain silent t).left in
    (none, by_suc (λ i. get_or ([] ∷ (rounds silent n (drain silent t).left).offers) i [] ≡ []) refl told)

pub not_demand_3_of_a_silent_library : (t : Tables) → Demand3 silent t → ⊥
not_demand_3_of_a_silent_library t d =
    let n = waits silent t in
    ⊎_elim
    (λ h. false≢true (sym (silent_offers (suc n) t).0 ∙ h))
    (λ h. let e : ◌≡◌ {A = List Event} [] (event.Refused SetHeld ∷ []) = sym ((silent_offers (suc (n + 0)) t).1 (n + 0)) ∙ h 0 in omega (arith, ap length e))
    d.settles
