-- Where a run stops: from there on it halts, with anything behind that may come; with event room for one record it consumes before 16; what
-- waits for more bytes is short; the records before the last are whole.
use Rattle.std.specs.Prelude.{Option, Some, None}
use Rattle.words.proofs.General.{ℕ, zero, suc, ◌+◌, ◌-◌, ◌≤◌, ◌<◌, le_of_suc-le-suc, arith, ◌≡◌, refl, sym, ap, ◌∙◌, ⊎_elim, true, false, List, [], ◌∷◌, ◌++◌, append-nil, length}
use Rattle.words.proofs.General.{take, drop, length-take-le, ltb, lt-ltb, le-ltb, clash, by_flag, pick_both, flag}
use Rattle.model.proofs.Terms.{Tables, after, events_of, is_command, length_of, log_bytes, event_room, later_stop, goes_on, step_at, RunResult, halt, run_from}
use Rattle.model.specs.RunnerOf as runner
use Rattle.model.specs.declared.Settings.{Settings}
use Rattle.model.specs.declared.Stop.{Stop}
use Rattle.model.specs.declared.Stop.TheVariants as stop
use Rattle.records.proofs.Lengths.{body_short}
use Rattle.running.proofs.Running.{by_record, going, from_stops}
use Rattle.running.proofs.Asked.{final}
use Rattle.running.proofs.Parts.{later_more, later_roomy}
use Rattle.streaming.specs.Scopes.{before_last}
use Rattle.streaming.specs.Halts.{of_end, MayFollow, OneRecord}
use Rattle.streaming.proofs.Lasts.{by_last, last_most, last_least}

-- ---- the checks at a record, by what they come to

module _ (room k : ℕ) (a : List ℕ) where
  -- with room for one record
  roomy_stop : event_room ≤ room → later_stop room k a ≡ Some stop.NoRoom → ⊥
  unfolding runner.later_stop
  roomy_stop w =
      by_record (λ n. n ≡ Some stop.NoRoom → ⊥) k a (λ c. (final {n = (Some stop.UnknownKind)} refl).roomy) (λ c l. (final {n = (Some stop.CutShort)} refl).roomy)
      (λ c l z. (final {n = (Some stop.OutOfPlace)} refl).roomy) (λ c l z. rw (le-ltb room event_room w) (final {n = None} refl).roomy)

  cut_stop : later_stop room k a ≡ Some stop.CutShort → (is_command k ≡ true) × (length a < length_of k)
  unfolding runner.later_stop
  cut_stop =
      by_record Cut k a (λ c e. clash (ap of_end e) refl) (λ c l e. (c, l)) (λ c l z e. clash (ap of_end e) refl)
      (λ c l z. pick_both Cut (ltb room event_room) (λ e. clash (ap of_end e) refl) (λ e. clash refl (ap goes_on e)))
    where
      Cut : Option Stop → Type 0
      Cut n = n ≡ Some stop.CutShort → (is_command k ≡ true) × (length a < length_of k)

  whole_stop : length_of k ≤ length a → later_stop room k a ≡ Some stop.CutShort → ⊥
  whole_stop w e = let l = (cut_stop e).1 in omega arith

  -- more bytes behind it
  more_same : (b : List ℕ) → (later_stop room k a ≡ Some stop.CutShort → ⊥) → later_stop room k (a ++ b) ≡ later_stop room k a
  unfolding runner.later_stop
  more_same b g =
      by_record (λ n. later_stop room k (a ++ b) ≡ later_stop room k a) k a {a = None} {b = None} (λ c. rw c) (λ c l. absurd (g (rw (c, lt-ltb _ _ l))))
      (λ c l z. later_more room k a b l) (λ c l z. later_more room k a b l)

module _ (S : Settings) where
  -- ---- from where a run stops it halts

  abbrev There : ℕ → ℕ → List ℕ → RunResult Tables → Type 0
  There other n a o = run_from S 0 other (drop (n + o.consumed) a) o.tables ≡ halt o.stop o.tables

  pub halts_there : (n room other : ℕ) (a : List ℕ) (t : Tables) → n ≤ length a → event_room ≤ other
      → ((run_from S n room a t).stop ≡ Some stop.NoRoom → ⊥) → There other n a (run_from S n room a t)
  unfolding runner.run_from
  halts_there n room other [] t h w g = let z : n ≡ 0 = omega arith in rw z
  halts_there (suc n) room other (x ∷ a) t h w g =
      let c = (run_from S n room a t).consumed in
      let e : suc n + c ≡ suc (n + c) = omega arith in
      rw e (halts_there n room other a t (le_of_suc-le-suc h) w g)
  halts_there zero room other (k ∷ a) t h w g =
      let x = log_bytes (events_of (step_at S k a t)) in
      let u = after t (step_at S k a t) in
      let o = run_from S (length_of k) (room - length x) a u in
      by_flag (λ (o : RunResult Tables). (o.stop ≡ Some stop.NoRoom → ⊥) → There other 0 (k ∷ a) o) (goes_on (later_stop room k a)) _ _
      (λ z f.
      let e : 0 + (1 + length_of k + o.consumed) ≡ suc (length_of k + o.consumed) = omega arith in
      rw e (halts_there (length_of k) (room - length x) other a u (going room k a z).whole w f))
      (λ z f. let q = later_roomy room k a other f (roomy_stop other k a w) in from_stops S other k a t (rw (← q) z) ∙ ap (λ (n : Option Stop). halt n t) (sym q))
      g

  -- ---- bytes before which a run halts

  pub halted_by : (room k : ℕ) (a : List ℕ) (t : Tables) {n : Option Stop} → run_from S 0 room (k ∷ a) t ≡ halt n t → (later_stop room k a ≡ n) × (goes_on (later_stop room k a) ≡ false)
  unfolding runner.run_from
  halted_by room k a t {n} =
      by_flag (λ (o : RunResult Tables). o ≡ halt n t → (later_stop room k a ≡ n) × (goes_on (later_stop room k a) ≡ false)) (goes_on (later_stop room k a)) _ _
      (λ z h. absurd (omega (arith, ap (λ (r : RunResult Tables). r.consumed) h)))
      (λ z h. (ap (λ (r : RunResult Tables). r.stop) h, z))

  any_halts : (room : ℕ) (a : List ℕ) (t : Tables) {n : Option Stop} → run_from S 0 room a t ≡ halt n t → (b : List ℕ)
      → (n ≡ None → ⊥) → (n ≡ Some stop.CutShort → ⊥) → run_from S 0 room (a ++ b) t ≡ halt n t
  unfolding runner.run_from
  any_halts room [] t h b f g = absurd (f (ap (λ (r : RunResult Tables). r.stop) (sym h)))
  any_halts room (k ∷ a) t h b f g =
      let (q, z) = halted_by room k a t h in
      let m = more_same room k a b (λ e. g (sym q ∙ e)) in
      from_stops S room k (a ++ b) t (rw m z) ∙ ap (λ (n : Option Stop). halt n t) (m ∙ q)

  pub halts_behind : (room : ℕ) (a : List ℕ) (t : Tables) (n : Option Stop) → run_from S 0 room a t ≡ halt n t → (b : List ℕ) → MayFollow n b → run_from S 0 room (a ++ b) t ≡ halt n t
  halts_behind room a t n h b q =
      ⊎_elim
      (λ z. rw (q z, append-nil) h)
      (λ z. any_halts room a t h b (λ e. clash (ap of_end e) z) (λ e. clash (ap of_end e) z))
      (flag (of_end n))

  -- nothing beyond the bytes is consumed
  pub eats_inside : (n room : ℕ) (a : List ℕ) (t : Tables) → n ≤ length a → n + (run_from S n room a t).consumed ≤ length a
  unfolding runner.run_from
  eats_inside n room [] t h = omega arith
  eats_inside (suc n) room (x ∷ a) t h = let i = eats_inside n room a t (le_of_suc-le-suc h) in omega arith
  eats_inside zero room (k ∷ a) t h =
      let x = log_bytes (events_of (step_at S k a t)) in
      by_flag (λ (o : RunResult Tables). 0 + o.consumed ≤ suc (length a)) (goes_on (later_stop room k a)) _ _
      (λ z. omega (arith, eats_inside (length_of k) (room - length x) a (after t (step_at S k a t)) (going room k a z).whole))
      (λ z. omega arith)

  -- at the end of the bytes nothing is left
  pub nothing_left : (room : ℕ) (a : List ℕ) (t : Tables) → run_from S 0 room a t ≡ halt None t → length a ≡ 0
  nothing_left room [] t h = refl
  nothing_left room (k ∷ a) t h = let q = halted_by room k a t h in clash (ap goes_on q.0) q.1

  -- ---- before 16 a record has run

  pub full_eats : (room : ℕ) (a : List ℕ) (t : Tables) → event_room ≤ room → (run_from S 0 room a t).stop ≡ Some stop.NoRoom → 0 < (run_from S 0 room a t).consumed
  unfolding runner.run_from
  full_eats room [] t w = λ e. let z : ◌≡◌ {A = ℕ} 0 1 = cc in absurd (omega arith)
  full_eats room (k ∷ a) t w =
      by_flag (λ (o : RunResult Tables). o.stop ≡ Some stop.NoRoom → 0 < o.consumed) (goes_on (later_stop room k a)) _ _
      (λ z e. omega arith)
      (λ z e. absurd (roomy_stop room k a w e))

-- ---- what waits is short

pub alone-short : (s : List ℕ) → OneRecord s → length s < 64
alone-short [] h = omega arith
alone-short (k ∷ s) h = let l = body_short k h.0 in omega arith

module _ (S : Settings) where
  pub cut_short : (room : ℕ) (a : List ℕ) (t : Tables) → run_from S 0 room a t ≡ halt (Some stop.CutShort) t → length a < 64
  cut_short room [] t h = omega arith
  cut_short room (k ∷ a) t h =
      let c = cut_stop room k a (halted_by S room k a t h).0 in
      omega (arith, body_short k c.0)

  -- ---- the records before the last are whole

  pub last_whole : (n room : ℕ) (s : List ℕ) (t : Tables) → n ≤ length s → (run_from S n room (take (before_last n s) s) t).stop ≡ Some stop.CutShort → ⊥
  unfolding before_last runner.run_from
  last_whole n room [] t h = λ e. let z : ◌≡◌ {A = ℕ} 0 1 = cc in omega arith
  last_whole (suc n) room (b ∷ s) t h = last_whole n room s t (le_of_suc-le-suc h)
  last_whole zero room (k ∷ s) t h =
      by_last Not k s
      (λ c l.
      let a = take (before_last (length_of k) s) s in
      let i = last_least (length_of k) s (omega arith) in
      let w : length_of k ≤ length a = let q = length-take-le (before_last (length_of k) s) s (last_most (length_of k) s) in omega arith in
      by_flag Short (goes_on (later_stop room k a)) _ _ (λ x. last_whole (length_of k) _ s _ (omega arith)) (λ x. whole_stop room k a w))
      (λ c l e. let x : ◌≡◌ {A = ℕ} 0 1 = cc in omega arith)
      (λ c.
      let a = take (length s) s in
      by_flag Short (goes_on (later_stop room k a)) _ _ (λ x e. clash (going room k a x).command c) (λ x e. clash (cut_stop room k a e).0 c))
    where
      Not : ℕ → Type 0
      Not m = (run_from S 0 room (take m (k ∷ s)) t).stop ≡ Some stop.CutShort → ⊥

      Short : RunResult Tables → Type 0
      Short o = o.stop ≡ Some stop.CutShort → ⊥
