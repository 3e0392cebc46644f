-- The parts of a round, made of the calls of `cache`, on the slices of sound tables: what each call told is written whole, and the next
-- call gets what it left.
use Rattle.std.specs.Prelude.{Option, Some, None}
use Rattle.words.proofs.General.{ℕ, ◌≤◌, arith, ◌≡◌, refl, sym, ap, subst, ◌∙◌, ⊎_elim, Bool, true, false, not, List, [], ◌∷◌, append-nil, length, eqb, eq-eqb, ne_eqb, flag}
use Rattle.model.proofs.Terms.{mask_of, Entry, Tables, Outcome, after, events_of, Lent, lent, tables_of, all_ones, sound, access, send, fill, call, access_call, send_call, fill_call}
use Rattle.model.proofs.Terms.{events_told, Leaves, log_bytes, fill_bytes, Turn, still, and_then, is_empty, accepts, send_turn, fill_first, drain, seen, seen_calls, Encodes, SoundSlices}
use Rattle.model.proofs.Terms.{Does}
use Rattle.model.specs.RecordsOf as records
use Rattle.model.specs.declared.Settings.{Settings}
use Rattle.model.specs.declared.Queued.{Queued}
use Rattle.model.specs.declared.Access.{Access}
use Rattle.model.specs.declared.Access.TheVariants.{Read}
use Rattle.model.specs.declared.Reply.{Reply}
use Rattle.encoding.proofs.Bridge.{is_tables, call_is, does_is}
use Rattle.model.proofs.SeenRounds.{unrefused_too, calls_clear}
use Rattle.model.proofs.Soundness.{send_keeps_sound, fill_keeps_sound, access_keeps_sound}
use Rattle.layout.specs.declared.Layout.{Layout}
use Rattle.layout.specs.Layout.{LaysOut}
use Rattle.layout.specs.Places.{First}
use Rattle.tables.proofs.Queue.{queue_counted}
use Rattle.rounds.specs.declared.Offer.{Offer}
use Rattle.turns.specs.Parts.{is_refusal, Noted, first_sent, FindsSent}
use Rattle.rounds.specs.Parts.{Queueless, Sees, SeesSend, SeesFill, SeesDrain, SeesRound, SeesStruck}
use Rattle.turns.proofs.Noting.{reply_accepted, noted_then}
use Rattle.turns.proofs.Turns.{send-bytes, fill-bytes, offer_bytes}

-- ---- one call

module _ (S : Settings) (step : Tables → Outcome Tables) {L : Lent} {r : Reply} {M : Lent} (l : Leaves (call S step L) L r M) where
  pub call_does : Does S step L r M
  call_does = record { on = λ t i. subst (λ (o : Outcome Lent). Leaves o L r M) (call_is S L t i step) l }

  module _ (h : SoundSlices S L) (ok : sound S (after h.tables (step h.tables)) ≡ true) where
    call-sees : {e : List ℕ} {out w : ℕ} {f : List ℕ} → Noted e out (events_told r) w f → Sees S (seen L (call S step L)) e out w f M
    call-sees n = record {
      left = l.left;
      bytes = rw (← l.tells) n;
      held = record { tables = _; are = does_is S call_does h.tables h.are ok };
    }

still_sees : (S : Settings) {L : Lent} → SoundSlices S L → (e : List ℕ) (out : ℕ) → Sees S (still L) e out out e L
unfolding records.log_bytes
still_sees S h e out = record { left = refl; bytes = record { next = omega arith; slice = refl; fits = tt }; held = h }

sees_then : (S : Settings) {a : Turn Lent} (g : Lent → Turn Lent) {e : List ℕ} {out w : ℕ} {f : List ℕ} {M : Lent} {v : ℕ} {h : List ℕ} {N : Lent}
    → Sees S a e out w f M → Sees S (g M) f w v h N → Sees S (and_then a g) e out v h N
sees_then S {a} g {w = w} {f = f} {M = M} {v = v} {h = h} {N = N} u s = record {
  left = subst (λ (P : Lent). N ≡ (g P).left) u.left s.left;
  bytes = noted_then a.events (g a.left).events u.bytes (subst (λ (P : Lent). Noted f w (g P).events v h) u.left s.bytes);
  held = s.held;
}

-- ---- the send

is_read_off : (S : Settings) {L : Lent} → SoundSlices S L → Encodes S L (tables_of S L)
is_read_off S {L} h = subst (λ (t : Tables). Encodes S L t) (sym (is_tables S L h.tables h.are)) h.are

empty_is : (qs : List Queued) (n : ℕ) → n ≡ length qs → eqb n 0 ≡ is_empty qs
empty_is [] n e = eq-eqb n 0 e
empty_is (q ∷ qs) n e = ne_eqb n 0 (λ z. omega arith)

-- q places of the queue are in use
pub queueless : (S : Settings) {longs words marks : List ℕ} → SoundSlices S (lent longs words marks) → {at : Layout} → LaysOut S at
    → {q : ℕ} → First marks at.kinds S.queue 0 q → Queueless S (lent longs words marks) (eqb q 0)
queueless S {longs} {words} {marks} h p {q} f =
    let i = is_read_off S h in
    let t = tables_of S (lent longs words marks) in
    record { is = empty_is t.queue q (queue_counted S t i p f) }

module _ (S : Settings) {L : Lent} (h : SoundSlices S L) where
  pub no-send : {b : Bool} → Queueless S L b → b ≡ true → (e : List ℕ) (out : ℕ) → SeesSend S L e out out e L
  unfolding send_turn
  no-send q is e out = let z : is_empty (tables_of S L).queue ≡ true = sym q.is ∙ is in record { on = λ x. rw z (still_sees S h e out); short = omega arith }

  module _ {r : Reply} {M : Lent} (l : Leaves (send_call S L) L r M) where
    pub send-room : length (log_bytes (events_told r)) ≤ 25
    send-room = send-bytes S (call_does S send l) h

    pub sees-send : {b : Bool} → Queueless S L b → b ≡ false → {e : List ℕ} {out w : ℕ} {f : List ℕ} → Noted e out (events_told r) w f → SeesSend S L e out w f M
    unfolding send_turn
    sees-send q is n =
        let z : is_empty (tables_of S L).queue ≡ false = sym q.is ∙ is in
        let k = send-room in
        record { on = λ x. rw z (call-sees S send l h (send_keeps_sound S h.tables h.are.soundly) n); short = omega (arith, n.next) }

-- ---- the fill

abbrev seen_fill_at : Settings → Lent → Option ℕ → Turn Lent
seen_fill_at S L (Some a) = seen L (fill_call S a L)
seen_fill_at S L None = still L

fill-first : (S : Settings) (x : Access) (es : List Entry) (L : Lent) → fill_first (seen_calls S x) es L ≡ seen_fill_at S L (first_sent es)
unfolding fill_first
fill-first S x [] L = refl
fill-first S x (y ∷ es) L = ⊎_elim (λ q. rw q) (λ q. rw q (fill-first S x es L)) (flag y.sent)

module _ (S : Settings) {L : Lent} (h : SoundSlices S L) {v : Option ℕ} (found : FindsSent S L v) where
  fill_at_lem : (x : Access) {w : Option ℕ} → v ≡ w → fill_first (seen_calls S x) (tables_of S L).misses L ≡ seen_fill_at S L w
  fill_at_lem x e = fill-first S x (tables_of S L).misses L ∙ ap (seen_fill_at S L) (sym (found.on (tables_of S L) (is_read_off S h)) ∙ e)

  pub no-fill : v ≡ None → (e : List ℕ) (out : ℕ) → SeesFill S L e out out e L
  no-fill q e out = record { on = λ x. rw (fill_at_lem x q) (still_sees S h e out); short = omega arith }

  module _ {a : ℕ} (q : v ≡ Some a) {r : Reply} {M : Lent} (l : Leaves (fill_call S a L) L r M) where
    pub fill-room : length (log_bytes (events_told r)) ≤ fill_bytes
    fill-room = fill-bytes S found q (call_does S (fill a) l) h

    pub fills : {e : List ℕ} {out w : ℕ} {f : List ℕ} → Noted e out (events_told r) w f → SeesFill S L e out w f M
    fills n =
        let k = fill-room in
        record {
          on = λ x. rw (fill_at_lem x q) (call-sees S (fill a) l h (fill_keeps_sound S a h.tables h.are.soundly) n);
          short = omega (arith, n.next);
        }

-- ---- both, and the offer

-- what the fill asks; the send does not look at the access
pub sent_held : (S : Settings) {L : Lent} {e : List ℕ} {out w : ℕ} {f : List ℕ} {M : Lent} → SeesSend S L e out w f M → SoundSlices S M
sent_held S s = (s.on (Read 0 0 0)).held

module _ (S : Settings) {L : Lent} {e : List ℕ} {out w : ℕ} {f : List ℕ} {M : Lent} where
  pub drains : SeesSend S L e out w f M → {v : ℕ} {g : List ℕ} {N : Lent} → SeesFill S M f w v g N → SeesDrain S L e out v g N
  unfolding drain
  drains s t = record {
    on = λ x. sees_then S (λ u. fill_first (seen_calls S x) (tables_of S u).misses u) (s.on x) (t.on x);
    short = omega (arith, s.short, t.short);
  }

  module _ (x : Access) (d : SeesDrain S L e out w f M) where
    pub drained : SoundSlices S M
    drained = (d.on x).held

    module _ {r : Reply} {N : Lent} (l : Leaves (access_call S x M) M r N) where
      pub offer-room : length (log_bytes (events_told r)) ≤ 38
      offer-room = offer_bytes S x (call_does S (access S x) l) drained

      pub sees-offer : mask_of x ≤ all_ones → {z : ℕ} {h : List ℕ} → Noted f w (events_told r) z h → {b : Bool} → b ≡ not (is_refusal r.first)
          → SeesRound S x L e out record { taken = b; written = z } h N
      sees-offer small n taken =
          let k = offer-room in
          let o = access_call S x M in
          let clear = (calls_clear S x).offers M in
          record {
            on = sees_then S (λ u. seen u (access_call S x u)) (d.on x)
                (call-sees S (access S x) l drained (access_keeps_sound S x drained.tables drained.are.range small drained.are.soundly) n);
            taken = taken
                ∙ sym (reply_accepted o r (unrefused_too o clear) l.tells)
                ∙ sym clear.clear
                ∙ ap (λ (P : Lent). accepts (events_of (access_call S x P))) (d.on x).left;
            short = omega (arith, n.next, d.short);
          }

-- ---- a struck round

module _ (S : Settings) (x : Access) {m : Bool} {L : Lent} {e : List ℕ} {out : ℕ} {f : List ℕ} {M : Lent} where
  pub struck_offers : m ≡ true → {r : Offer} → SeesRound S x L e out r f M → SeesStruck S x m L e out r.written f M
  struck_offers h s = record { on = rw h s.on; short = s.short }

  pub struck_drains : m ≡ false → {w : ℕ} → SeesDrain S L e out w f M → SeesStruck S x m L e out w f M
  struck_drains h s = record { on = rw (h, append-nil) (s.on x); short = omega (arith, s.short) }
