-- The parts of a round on the slices of sound tables: its send, its fill of the first sent entry, its offer.
use Rattle.words.proofs.General.{ℕ, zero, suc, ◌+◌, ◌≤◌, ◌<◌, not-suc-le-zero, le_of_suc-le-suc, arith, ◌≡◌, refl, sym, ap, ◌∙◌, ⊎_elim, true, false, List, [], ◌∷◌, length, get_or}
use Rattle.words.proofs.General.{eqb, eq-eqb, ne_eqb, flag}
use Rattle.model.proofs.Terms.{mask_of, Entry, Tables, Outcome, after, Lent, lent, all_ones, sound, access, send, fill, events_told, log_bytes, fill_bytes, steps, Turn, still}
use Rattle.model.proofs.Terms.{took, and_then, outcome_send, outcome_fill, outcome_drain, Sized, Encodes, SoundSlices, Does}
use Rattle.model.specs.RecordsOf as records
use Rattle.model.specs.declared.Settings.{Settings}
use Rattle.model.specs.declared.Queued.{Queued}
use Rattle.model.specs.declared.Access.{Access}
use Rattle.model.specs.declared.Command.TheVariants as cmd
use Rattle.model.specs.declared.Reply.{Reply}
use Rattle.encoding.proofs.Bridge.{does_tells, does_is}
use Rattle.model.proofs.SeenRounds.{Clear, unrefused, unrefused_too, send_clear, fill_clear, access_clear, took_left}
use Rattle.model.proofs.SoundFacts.{parts, few_misses}
use Rattle.model.proofs.Soundness.{send_keeps_sound, fill_keeps_sound, access_keeps_sound}
use Rattle.layout.specs.declared.Layout.{Layout}
use Rattle.layout.specs.Layout.{LaysOut}
use Rattle.layout.specs.Places.{First}
use Rattle.encoding.proofs.Bridge.{is_fit}
use Rattle.layout.proofs.ByBlocks.{is_stands}
use Rattle.tables.proofs.Misses.{no_entry, address-at, sent-at, misses_counted}
use Rattle.tables.proofs.Queue.{queue_counted}
use Rattle.records.proofs.Room.{send_takes, access_takes, step_takes}
use Rattle.std.specs.Prelude.{Option, Some, None}
use Rattle.turns.specs.Parts.{noted, Noted, first_sent, FindsSent, CallsWrote, Sends, Fills, Offers}
use Rattle.turns.proofs.Noting.{noted_took, noted_then, noted-short, noted-refused}

-- ---- one call of a round

-- a step's turn, and what was written of it
step_turned : (S : Settings) {step : Tables → Outcome Tables} {L : Lent} {r : Reply} {M : Lent} (d : Does S step L r M) (t : Tables) → Encodes S L t
    → sound S (after t (step t)) ≡ true → Clear unrefused (step t) → {e : List ℕ} {out w : ℕ} {f : List ℕ} → Noted e out (noted r) w f
    → CallsWrote S (took t (step t)) e out w f M
step_turned S {step} {r = r} d t i ok p n = record {
  are = rw (took_left t (step t)) (does_is S d t i ok);
  bytes = rw (← noted_took t (step t) r p (does_tells S d t i)) n;
}

-- no call: nothing is written
still_turned : (S : Settings) {L : Lent} (t : Tables) → Encodes S L t → (e : List ℕ) (out : ℕ) → CallsWrote S (still t) e out out e L
unfolding records.log_bytes
still_turned S t i e out = record { are = i; bytes = record { next = omega arith; slice = refl; fits = tt } }

turned_then : (S : Settings) {a : Turn Tables} (g : Tables → Turn Tables) {e : List ℕ} {out w : ℕ} {f : List ℕ} {M : Lent} {v : ℕ} {h : List ℕ} {N : Lent}
    → CallsWrote S a e out w f M → CallsWrote S (g a.left) f w v h N → CallsWrote S (and_then a g) e out v h N
turned_then S {a} g u v = record { are = v.are; bytes = noted_then a.events (g a.left).events u.bytes v.bytes }

-- ---- the send

-- with nothing queued send is refused
send_took : (S : Settings) (x : Access) (t : Tables) → outcome_send (steps S x) t ≡ took t (send t)
unfolding outcome_send send
send_took S x t = go t.queue refl
  where
    go : (q : List Queued) → t.queue ≡ q → outcome_send (steps S x) t ≡ took t (send t)
    go [] e = rw e
    go (y ∷ q) e = rw e

module _ (S : Settings) {L : Lent} {r : Reply} {M : Lent} (d : Does S send L r M) where
  pub send-bytes : SoundSlices S L → length (log_bytes (events_told r)) ≤ 25
  send-bytes h = rw (does_tells S d h.tables h.are) (send_takes h.tables).most

  pub sends : {e : List ℕ} {out w : ℕ} {f : List ℕ} → SoundSlices S L → Noted e out (noted r) w f → Sends S L e out w f M
  sends h n = record {
    on = λ x t i. rw (send_took S x t) (step_turned S d t i (send_keeps_sound S t i.soundly) (send_clear t) n);
    short = noted-short r 25 (send-bytes h) n;
  }

-- ---- the fill of the first sent entry

first_sent_at : (es : List Entry) (r : ℕ) → r < length es → ((k : ℕ) → k < r → (get_or es k no_entry).sent ≡ false) → (get_or es r no_entry).sent ≡ true
    → first_sent es ≡ Some (get_or es r no_entry).address
first_sent_at [] r h f e = absurd (not-suc-le-zero h)
first_sent_at (x ∷ es) zero h f e = rw e
first_sent_at (x ∷ es) (suc r) h f e = rw (f 0 (omega arith)) (first_sent_at es r (le_of_suc-le-suc h) (λ k j. f (suc k) (omega arith)) e)

none_sent : (es : List Entry) → ((k : ℕ) → k < length es → (get_or es k no_entry).sent ≡ false) → first_sent es ≡ None
none_sent [] f = refl
none_sent (x ∷ es) f = rw (f 0 (omega arith)) (none_sent es (λ k j. f (suc k) (omega arith)))

-- n entries are in use, and mark r is the first of theirs that is set
module _ (S : Settings) {longs words marks : List ℕ} (t : Tables) (i : Encodes S (lent longs words marks) t) {at : Layout} (p : LaysOut S at)
    {n : ℕ} (u : First marks at.counts S.misses 0 n) {r : ℕ} (f : First marks at.sent n 1 r) where
  in_use : n ≡ length t.misses
  in_use = misses_counted S t i p u

  sent_is : (e : ℕ) → e < length t.misses → eqb (get_or marks (at.sent + e) 0) 1 ≡ (get_or t.misses e no_entry).sent
  sent_is = sent-at S t (is_stands i) p (few_misses S t (parts S t i.soundly))

  unset : (k : ℕ) → k < length t.misses → k < r → (get_or t.misses k no_entry).sent ≡ false
  unset k h j = sym (sent_is k h) ∙ ne_eqb (get_or marks (at.sent + k) 0) 1 (f.before k j)

  pub found_sent : r < n → Some (get_or longs (at.misses + r) 0) ≡ first_sent t.misses
  found_sent h =
      let all = in_use in
      let below : r < length t.misses = omega arith in
      ap Some (address-at S t (is_stands i) p (few_misses S t (parts S t i.soundly)) r below)
      ∙ sym (first_sent_at t.misses r below (λ k j. unset k (omega arith) j)
      (sym (sent_is r below) ∙ eq-eqb (get_or marks (at.sent + r) 0) 1 (f.there h)))

  pub found_none : n ≤ r → None ≡ first_sent t.misses
  found_none h = let all = in_use in sym (none_sent t.misses (λ k j. unset k j (omega arith)))

abbrev fill_at : Tables → Option ℕ → Turn Tables
fill_at t (Some a) = took t (fill a t)
fill_at t None = still t

fill-first : (S : Settings) (x : Access) (es : List Entry) (t : Tables) → outcome_fill (steps S x) es t ≡ fill_at t (first_sent es)
unfolding outcome_fill
fill-first S x [] t = refl
fill-first S x (y ∷ es) t = ⊎_elim (λ q. rw q) (λ q. rw q (fill-first S x es t)) (flag y.sent)

module _ (S : Settings) {L : Lent} {v : Option ℕ} (found : FindsSent S L v) where
  fill_at_lem : (x : Access) (t : Tables) → Encodes S L t → {w : Option ℕ} → v ≡ w → outcome_fill (steps S x) t.misses t ≡ fill_at t w
  fill_at_lem x t i e = fill-first S x t.misses t ∙ ap (fill_at t) (sym (found.on t i) ∙ e)

  pub fills_none : v ≡ None → (e : List ℕ) (out : ℕ) → Fills S L e out out e L
  fills_none q e out = record { on = λ x t i. rw (fill_at_lem x t i q) (still_turned S t i e out); short = omega arith }

  module _ {a : ℕ} (q : v ≡ Some a) {r : Reply} {M : Lent} (d : Does S (fill a) L r M) (h : SoundSlices S L) where
    pub fill-bytes : length (log_bytes (events_told r)) ≤ fill_bytes
    fill-bytes = let i = h.are in rw (does_tells S d h.tables i) (step_takes S (cmd.Fill a) h.tables i.range i.soundly).most

    pub fills-sent : {e : List ℕ} {out w : ℕ} {f : List ℕ} → Noted e out (noted r) w f → Fills S L e out w f M
    fills-sent n = record {
      on = λ x t i. rw (fill_at_lem x t i q) (step_turned S d t i (fill_keeps_sound S a t i.soundly) (fill_clear a t) n);
      short = noted-short r fill_bytes fill-bytes n;
    }

-- ---- the whole round

pub offer_bytes : (S : Settings) (x : Access) {L : Lent} {r : Reply} {M : Lent} → Does S (access S x) L r M → SoundSlices S L → length (log_bytes (events_told r)) ≤ 38
offer_bytes S x d h = rw (does_tells S d h.tables h.are) (access_takes S x h.tables).most

module _ (S : Settings) (x : Access) {L : Lent} {e : List ℕ} {out w : ℕ} {f : List ℕ} {M : Lent} (s : Sends S L e out w f M) where
  pub sends_held : SoundSlices S L → SoundSlices S M
  sends_held h = let u = s.on x h.tables h.are in record { tables = _; are = u.are }

  module _ {v : ℕ} {g : List ℕ} {N : Lent} (fs : Fills S M f w v g N) where
    drained : (t : Tables) → Encodes S L t → CallsWrote S (outcome_drain (steps S x) t) e out v g N
    unfolding outcome_drain
    drained t i = let u = s.on x t i in turned_then S (λ y. outcome_fill (steps S x) y.misses y) u (fs.on x (outcome_send (steps S x) t).left u.are)

    pub drained-held : SoundSlices S L → SoundSlices S N
    drained-held h = let u = drained h.tables h.are in record { tables = _; are = u.are }

    module _ {r : Reply} {O : Lent} (d : Does S (access S x) N r O) where
      pub offers : SoundSlices S L → mask_of x ≤ all_ones → {z : ℕ} {h : List ℕ} → Noted g v (noted r) z h → Offers S x L e out record { reply = r; written = z } h O
      offers held small {z} n =
          let k = drained-held held in
          let b = noted-short r 38 (offer_bytes S x d k) n in
          record {
            on = λ t i.
                let u = drained t i in
                let a = (outcome_drain (steps S x) t).left in
                record {
                  are = does_is S d a u.are (access_keeps_sound S x a i.range small u.are.soundly);
                  tells = does_tells S d a u.are;
                  tidy = (d.on a u.are).tidy;
                  bytes = noted_then (outcome_drain (steps S x) t).events (took a (access S x a)).events u.bytes
                      (rw (← noted_took a (access S x a) r (unrefused_too (access S x a) (access_clear S x a)) (does_tells S d a u.are)) n);
                };
            short = omega (arith, s.short, fs.short);
            refused = λ q. let c : z ≤ v + 0 = noted-refused r q n in omega (arith, s.short, fs.short);
          }

-- ---- how many rounds

module _ (S : Settings) {longs words marks : List ℕ} {at : Layout} (p : LaysOut S at)
    {q : ℕ} (f : First marks at.kinds S.queue 0 q) {m : ℕ} (u : First marks at.counts S.misses 0 m) where
  pub in_use_counted : (t : Tables) → Encodes S (lent longs words marks) t → (q ≡ length t.queue) × (m ≡ length t.misses)
  in_use_counted t i = (queue_counted S t i p f, misses_counted S t i p u)
