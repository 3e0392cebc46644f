-- The rounds one after another: where the loop over them stands, a round more, its two ends.
use Rattle.std.specs.Prelude.{Ok, Err}
use Rattle.words.proofs.General.{ℕ, suc, ◌+◌, ◌-◌, ◌*◌, ◌≤◌, ◌<◌, add-zero, arith, ◌≡◌, refl, sym, ap, ◌∙◌, ⊎_elim, true, false, not, false≢true, List, [], ◌∷◌, ◌++◌}
use Rattle.words.proofs.General.{append_assoc, append-nil, length, get_or, length-append, any, clash, any_append}
use Rattle.model.proofs.Terms.{well_formed, Tables, Outcome, refused, done, accepted, events_of, Lent, access, events_told, log_bytes, settle_bytes, wait_room, steps, Turn, Run}
use Rattle.model.proofs.Terms.{outcome_go_on, outcome_drain, outcome_rounds, outcome_waits, Encodes, SoundSlices}
use Rattle.model.specs.RecordsOf as records
use Rattle.model.specs.declared.Settings.{Settings}
use Rattle.model.specs.declared.Access.{Access}
use Rattle.model.specs.declared.Refusal.{Refusal}
use Rattle.model.specs.declared.Refusal.TheVariants.{SetHeld}
use Rattle.model.specs.declared.Event.{Event}
use Rattle.model.specs.declared.Event.TheVariants as event
use Rattle.model.specs.declared.Reply.{Reply}
use Rattle.model.proofs.Bound.{rounds_settled}
use Rattle.model.proofs.SeenRounds.{unrefused_too, access_clear}
use Rattle.records.specs.Stores.{Stored}
use Rattle.tables.specs.Telling.{telling}
use Rattle.rounds.specs.declared.NotAccepted.TheVariants as wait
use Rattle.turns.specs.declared.Round.{Round}
use Rattle.rounds.specs.Waiting.{Waiting, last_offer}
use Rattle.turns.specs.Parts.{is_refusal, Noted, Offers, Enough}
use Rattle.rounds.specs.Parts.{RoundsSettle}
use Rattle.turns.proofs.Noting.{reply_accepted, noted_then}
use Rattle.rounds.proofs.Written.{noted-written, refusal_noted}

abbrev said : ℕ → Event → Waiting
said n e = Ok record { round = n; answer = e }

-- ---- runs behind other rounds

abbrev behind_rounds : List Event → List (Outcome Tables) → Run Tables → Run Tables
behind_rounds es os r = record { turn = record { events = es ++ r.turn.events; left = r.turn.left }; offers = os ++ r.offers }

-- a round whose offer came to o, and the rounds after it
next_round : (S : Settings) (x : Access) (n : ℕ) (t : Tables) {o : Outcome Tables} → access S x (outcome_drain (steps S x) t).left ≡ o
    → outcome_rounds (steps S x) (suc n) t ≡ outcome_go_on (outcome_drain (steps S x) t) (outcome_rounds (steps S x) n) o
unfolding outcome_rounds
next_round S x n t e = rw e

-- ---- offers

last_one : (d o : Outcome Tables) (os : List (Outcome Tables)) → last_offer d (os ++ (o ∷ [])) ≡ o
last_one d o [] = refl
last_one d o (p ∷ os) = last_one p o os

last_at : (d c : Outcome Tables) (os : List (Outcome Tables)) → last_offer d os ≡ get_or (d ∷ os) (length os) c
last_at d c [] = refl
last_at d c (o ∷ os) = last_at o c os

refused-one : (o : Outcome Tables) → accepted o ≡ false → (k : Refusal) × (o ≡ refused k)
refused-one (refused k) e = (k, refl)
refused-one (done es u) e = absurd (false≢true (sym e))

done_one : (o : Outcome Tables) → accepted o ≡ true → (es : List Event) × (u : Tables) × (o ≡ done es u)
done_one (refused k) e = absurd (false≢true e)
done_one (done es u) e = (es, u, refl)

-- ---- where the loop stands

module _ (S : Settings) (x : Access) (most : ℕ) where
  -- on tables from which the rest of the rounds gives what all of them give
  pub record RoundsLead (t₀ : Tables) (e₀ : List ℕ) (round out : ℕ) (L : Lent) (e : List ℕ) : Type 0 where
    pub tables : Tables
    pub are : Encodes S L tables
    pub events : List Event
    pub offers : List (Outcome Tables)
    pub made : length offers ≡ round
    pub none : any accepted offers ≡ false
    pub rest : outcome_rounds (steps S x) most t₀ ≡ behind_rounds events offers (outcome_rounds (steps S x) (most - round) tables)
    pub bytes : Noted e₀ 0 events out e

  pub record RoundsStand (L₀ : Lent) (e₀ : List ℕ) (round out : ℕ) (L : Lent) (e : List ℕ) : Type 0 where
    pub few : round ≤ most
    pub short : out ≤ settle_bytes * round
    pub size : length e ≡ length e₀
    pub longs : length L.longs ≡ length L₀.longs
    pub words : length L.words ≡ length L₀.words
    pub marks : length L.marks ≡ length L₀.marks
    pub leads : (t₀ : Tables) → Encodes S L₀ t₀ → RoundsLead t₀ e₀ round out L e

module _ {S : Settings} {x : Access} {most : ℕ} where
  pub rounds_stand_first : (L : Lent) (e : List ℕ) → RoundsStand S x most L e 0 0 L e
  unfolding records.log_bytes
  rounds_stand_first L e = record {
    few = omega arith;
    short = omega arith;
    size = refl;
    longs = refl;
    words = refl;
    marks = refl;
    leads = λ t i. record {
      tables = t;
      are = i;
      events = [];
      offers = [];
      made = refl;
      none = refl;
      rest = let q : most - 0 ≡ most = omega arith in rw q;
      bytes = record { next = refl; slice = refl; fits = tt };
    };
  }

  module _ {L₀ : Lent} {e₀ : List ℕ} {round out : ℕ} {L : Lent} {e : List ℕ} (g : RoundsStand S x most L₀ e₀ round out L e) where
    pub rounds-stand-held : SoundSlices S L₀ → SoundSlices S L
    rounds-stand-held h = let l = g.leads h.tables h.are in record { tables = l.tables; are = l.are }

    -- ---- one round more

    module _ (more : round < most) {r : Round} {f : List ℕ} {M : Lent} (made : Offers S x L e out r f M) where
      next : most - round ≡ suc (most - (round + 1))
      next = omega arith

      offer-accepted : (t : Tables) → Encodes S L t → accepted (access S x (outcome_drain (steps S x) t).left) ≡ not (is_refusal r.reply.first)
      offer-accepted t i = reply_accepted _ r.reply (unrefused_too _ (access_clear S x (outcome_drain (steps S x) t).left)) (made.on t i).tells

      -- ---- whose offer was refused

      module _ (q : is_refusal r.reply.first ≡ true) where
        led : (t₀ : Tables) → Encodes S L₀ t₀ → RoundsLead S x most t₀ e₀ (round + 1) r.written M f
        led t₀ i =
            let l = g.leads t₀ i in
            let a : Turn Tables = outcome_drain (steps S x) l.tables in
            let w = made.on l.tables l.are in
            let (k, o) = refused-one (access S x a.left) (offer-accepted l.tables l.are ∙ ap not q) in
            record {
              tables = a.left;
              are = rw o at w.are;
              events = l.events ++ a.events;
              offers = l.offers ++ (refused k ∷ []);
              made = rw length-append (let m = l.made in omega arith);
              none = rw (any_append, l.none);
              rest = l.rest ∙ rw (next, next_round S x (most - (round + 1)) l.tables o) (simp append_assoc);
              bytes = noted_then l.events a.events l.bytes (rw (o, append-nil) at w.bytes);
            }

        pub rounds-stand-again : length f ≡ length e → length M.longs ≡ length L.longs → length M.words ≡ length L.words
            → length M.marks ≡ length L.marks → RoundsStand S x most L₀ e₀ (round + 1) r.written M f
        rounds-stand-again size longs words marks = record {
          few = omega arith;
          short = let s = made.refused q in let h = g.short in omega arith;
          size = size ∙ g.size;
          longs = longs ∙ g.longs;
          words = words ∙ g.words;
          marks = marks ∙ g.marks;
          leads = led;
        }

      -- ---- whose offer was accepted

      module _ (q : is_refusal r.reply.first ≡ false) (few : most ≤ 128) (room : wait_room ≤ length e₀) where
        pub goes-accepted : RoundsSettle S x most L₀ e₀ record { waiting = Ok record { round = round + 1; answer = r.reply.first }; written = r.written } f M
        unfolding events_told
        goes-accepted = record {
          on = λ t₀ i.
              let l = g.leads t₀ i in
              let a : Turn Tables = outcome_drain (steps S x) l.tables in
              let w = made.on l.tables l.are in
              let (es, u, o) = done_one (access S x a.left) (offer-accepted l.tables l.are ∙ ap not q) in
              let all : outcome_rounds (steps S x) most t₀ ≡ record { turn = record { events = l.events ++ (a.events ++ es); left = u }; offers = l.offers ++ (done es u ∷ []) } =
              l.rest ∙ rw (next, next_round S x (most - (round + 1)) l.tables o) in
              let first : r.reply.first ≡ get_or es 0 event.Ticked = ap (λ (v : List Event). get_or v 0 event.Ticked) (w.tells ∙ ap events_of o) in
              let laid = noted_then l.events (a.events ++ es) l.bytes (rw o at w.bytes) in
              let (count, slice, back) = noted-written (l.events ++ (a.events ++ es)) e₀ laid (let s = made.short in let h = g.short in omega arith) in
              let many : length (l.offers ++ (done es u ∷ [])) ≡ round + 1 = rw length-append (let m = l.made in omega arith) in
              rw (all, last_one (refused SetHeld) (done es u) l.offers, many, append-nil) record {
                waiting = ap (λ (v : Event). said (round + 1) v) first;
                written = count;
                events = slice;
                reads = back;
                left = (rw o at w.are).encoded;
              };
        }

    -- ---- all refused: 6, by demand 3

    module _ (end : most ≤ round) (formed : well_formed x ≡ true) (enough : Enough S L₀ most) where
      pub all-run : (t₀ : Tables) (i : Encodes S L₀ t₀) → outcome_rounds (steps S x) most t₀
          ≡ record { turn = record { events = (g.leads t₀ i).events; left = (g.leads t₀ i).tables }; offers = (g.leads t₀ i).offers }
      unfolding outcome_rounds
      all-run t₀ i = let zero : most - round ≡ 0 = omega arith in (g.leads t₀ i).rest ∙ rw (zero, append-nil, append-nil)

      pub last-held : (t₀ : Tables) (i : Encodes S L₀ t₀) → last_offer (refused SetHeld) (g.leads t₀ i).offers ≡ refused SetHeld
      last-held t₀ i =
          let l = g.leads t₀ i in
          let many : most ≡ suc (outcome_waits (steps S x) t₀) = enough.on t₀ i in
          let offers : (outcome_rounds (steps S x) (suc (outcome_waits (steps S x) t₀)) t₀).offers ≡ l.offers = rw (← many, all-run t₀ i) in
          let size : length l.offers ≡ suc (outcome_waits (steps S x) t₀) = let m = l.made in let f = g.few in omega arith in
          ⊎_elim
          (λ h. clash h (ap (any accepted) offers ∙ l.none))
          (λ h. last_at (refused SetHeld) (done [] t₀) l.offers ∙ rw size (rw (add-zero, offers) at (h 0)))
          (rounds_settled S x t₀ i.range i.soundly formed).settles

      -- its refusal fits behind what is written
      module _ (room : wait_room ≤ length e₀) {reply : Reply} (is : reply ≡ telling (event.Refused SetHeld)) {n : ℕ} {f : List ℕ}
          (s : Stored e out (log_bytes (events_told reply)) n f) where
        held-noted : (n ≡ 2) × Noted e out (event.Refused SetHeld ∷ []) (out + n) f
        held-noted = refusal_noted SetHeld e out is s (omega (arith, g.size, g.short, g.few, enough.few))

        pub held_fits : out + n ≤ wait_room
        held_fits = omega (arith, held-noted.0, g.short, g.few, enough.few)

        pub goes-held-end : RoundsSettle S x most L₀ e₀ record { waiting = Err wait.Held; written = out + n } f L
        goes-held-end = record {
          on = λ t₀ i.
              let l = g.leads t₀ i in
              let laid = noted_then l.events (event.Refused SetHeld ∷ []) l.bytes held-noted.1 in
              let (count, events, back) = noted-written (l.events ++ (event.Refused SetHeld ∷ [])) e₀ laid (let h = held_fits in omega arith) in
              rw (all-run t₀ i, last-held t₀ i) record { waiting = refl; written = count; events = events; reads = back; left = l.are.encoded };
        }
