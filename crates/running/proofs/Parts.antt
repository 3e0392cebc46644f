-- A run in two parts, cut between two records or anywhere; the event room decides nothing but stop 16; the first record of a front part.
use Rattle.model.specs.declared.Body.{Body}
use Rattle.std.specs.Prelude.{Result, Option, Some, None}
use Rattle.words.proofs.General.{ℕ, zero, suc, ◌+◌, ◌-◌, ◌≤◌, le_of_suc-le-suc, add_assoc, zero-add, sub-zero, sub-add-eq, arith, ◌≡◌, refl, sym, ap, ◌∙◌, ⊎_elim, true, false, not}
use Rattle.words.proofs.General.{List, [], ◌∷◌, ◌++◌, append_assoc, length, drop, length-append, take-append-le, drop_at, leb, ltb, eqb, not-true, lt-ltb, le-ltb, leb-true, pick}
use Rattle.words.proofs.General.{clash, by_flag, flag, or_cases}
use Rattle.model.proofs.Terms.{stop_number, Tables, after, events_of, Lent, is_command, is_settings, length_of, settings_in, read_at, log_bytes, event_room, settings_of, settings_stop}
use Rattle.model.proofs.Terms.{first_stop, later_stop, goes_on, step_at, RunResult, halt, bytes_then, run_from}
use Rattle.model.specs.RunnerOf as runner
use Rattle.model.specs.declared.Settings.{Settings}
use Rattle.model.specs.declared.Stop.{Stop}
use Rattle.model.specs.declared.Stop.TheVariants.{OutOfPlace, UnknownKind, NoRoom}
use Rattle.running.specs.Resume.{record_kind_at, head_stop}
use Rattle.running.specs.Begin.{beginning, first_there}
use Rattle.running.proofs.Checks.{head-there}
use Rattle.running.proofs.First.{first_settled}
use Rattle.running.proofs.Running.{by_record, going, from_stops, from_goes}

-- ---- at a record: more bytes behind a whole one change nothing, and the room decides only stop 16

module _ (room k : ℕ) (a : List ℕ) where
  pub later_more : (b : List ℕ) → length_of k ≤ length a → later_stop room k (a ++ b) ≡ later_stop room k a
  unfolding runner.later_stop
  later_more b h =
      let l : length_of k ≤ length (a ++ b) = rw length-append (omega arith) in
      rw (le-ltb (length (a ++ b)) (length_of k) l, le-ltb (length a) (length_of k) h)

  -- a record that stops for want of room is whole
  later_full : later_stop room k a ≡ Some NoRoom → length_of k ≤ length a
  unfolding runner.later_stop
  later_full =
      by_record (λ n. n ≡ Some NoRoom → length_of k ≤ length a) k a
      (λ c h. let z : ◌≡◌ {A = ℕ} 0 1 = cc in absurd (omega arith)) (λ c w h. let z : ◌≡◌ {A = ℕ} 0 1 = cc in absurd (omega arith)) (λ c w z h. w) (λ c w z h. w)

  -- two rooms, of which neither is too little
  pub later_roomy : (other : ℕ) → (later_stop room k a ≡ Some NoRoom → ⊥) → (later_stop other k a ≡ Some NoRoom → ⊥) → later_stop room k a ≡ later_stop other k a
  unfolding runner.later_stop
  later_roomy other g h =
      by_record (λ n. later_stop room k a ≡ later_stop other k a) k a {a = None} {b = None} (λ c. rw c) (λ c w. rw (c, lt-ltb _ _ w)) (λ c w z. rw (c, le-ltb _ _ w, z))
      (λ c w z.
      ⊎_elim
      (λ (d : ltb room event_room ≡ true). absurd (g (rw (c, le-ltb _ _ w, z, d))))
      (λ (d : ltb room event_room ≡ false).
      ⊎_elim (λ (f : ltb other event_room ≡ true). absurd (h (rw (c, le-ltb _ _ w, z, f)))) (λ (f : ltb other event_room ≡ false). rw (c, le-ltb _ _ w, z, d, f)) (flag (ltb other event_room)))
      (flag (ltb room event_room)))

step_more : (S : Settings) (k : ℕ) (a b : List ℕ) (t : Tables) → length_of k ≤ length a → step_at S k (a ++ b) t ≡ step_at S k a t
unfolding runner.step_at
step_more S k a b t h = rw (take-append-le (length_of k) a b h)

full_halts : {n : Option Stop} → n ≡ Some NoRoom → goes_on n ≡ true → ⊥
full_halts q z = let y : goes_on (Some NoRoom) ≡ true = rw q at z in clash y refl

-- what the first record of a run comes to
pub goes_first : {T : Type 0} (n : Option Stop) (o : RunResult T) (t : T) → goes_on (pick (goes_on n) o (halt n t)).stop ≡ true → goes_on n ≡ true
goes_first {T} n o t = by_flag (λ (r : RunResult T). goes_on r.stop ≡ true → goes_on n ≡ true) (goes_on n) _ _ (λ z h. z) (λ z h. h)

full_first : (n : Option Stop) (o : RunResult Tables) (t : Tables) → ((pick (goes_on n) o (halt n t)).stop ≡ Some NoRoom → ⊥) → n ≡ Some NoRoom → ⊥
full_first n o t =
    by_flag (λ (r : RunResult Tables). (r.stop ≡ Some NoRoom → ⊥) → n ≡ Some NoRoom → ⊥) (goes_on n) _ _
    (λ z h q. full_halts q z)
    (λ z h q. h q)

-- ---- one part in two rooms, and a part that stops for want of room

module _ (S : Settings) where
  -- more room, or less: the same, unless it stops with 16
  pub run_in_rooms : (n room other : ℕ) (a : List ℕ) (t : Tables) → ((run_from S n room a t).stop ≡ Some NoRoom → ⊥) → ((run_from S n other a t).stop ≡ Some NoRoom → ⊥)
      → run_from S n room a t ≡ run_from S n other a t
  unfolding runner.run_from
  run_in_rooms n room other [] t g h = refl
  run_in_rooms (suc n) room other (x ∷ a) t g h = run_in_rooms n room other a t g h
  run_in_rooms zero room other (k ∷ a) t g h =
      let e = later_roomy room k a other (full_first (later_stop room k a) _ t g) (full_first (later_stop other k a) _ t h) in
      let x = log_bytes (events_of (step_at S k a t)) in
      let u = after t (step_at S k a t) in
      by_flag (λ (o : RunResult Tables). (o.stop ≡ Some NoRoom → ⊥) → o ≡ run_from S 0 other (k ∷ a) t) (goes_on (later_stop room k a)) _ _
      (λ z f.
      let q = from_goes S other k a t (rw (← e) z) in
      ap (bytes_then (1 + length_of k) x) (run_in_rooms (length_of k) (room - length x) (other - length x) a u f (λ n. h (ap (λ (r : RunResult Tables). r.stop) q ∙ n))) ∙ sym q)
      (λ z f. ap (λ (n : Option Stop). halt n t) e ∙ sym (from_stops S other k a t (rw (← e) z)))
      g

  -- a part that stops with 16 stops the whole with 16
  full_in_parts : (n room : ℕ) (a b : List ℕ) (t : Tables) → n ≤ length a → (run_from S n room a t).stop ≡ Some NoRoom → (run_from S n room (a ++ b) t).stop ≡ Some NoRoom
  unfolding runner.run_from
  full_in_parts n room [] b t h e = let z : ◌≡◌ {A = ℕ} 0 1 = cc in absurd (omega arith)
  full_in_parts (suc n) room (x ∷ a) b t h e = full_in_parts n room a b t (le_of_suc-le-suc h) e
  full_in_parts zero room (k ∷ a) b t h e =
      by_flag (λ (o : RunResult Tables). o.stop ≡ Some NoRoom → (run_from S 0 room (k ∷ (a ++ b)) t).stop ≡ Some NoRoom) (goes_on (later_stop room k a)) _ _
      (λ z f. let w = (going room k a z).whole in rw (later_more room k a b w, z, step_more S k a b t w) (full_in_parts (length_of k) _ a b _ w f))
      (λ z f. rw (later_more room k a b (later_full room k a f), z) f)
      e

-- ---- a front part, whatever stopped it, and the run from there on: also where a record was cut short, or its events had no room; two parts

later_wider : (room other k : ℕ) (a : List ℕ) → room ≤ other → goes_on (later_stop room k a) ≡ true → goes_on (later_stop other k a) ≡ true
unfolding runner.later_stop
later_wider room other k a h z =
    let g = going room k a z in
    let r = g.roomy in
    rw (g.command, le-ltb (length a) (length_of k) g.whole, g.later, le-ltb other event_room (omega arith))

module _ (S : Settings) where
  -- from where o stopped, n bytes and what it consumed further on
  abbrev pub further_on : ℕ → ℕ → List ℕ → RunResult Tables → RunResult Tables
  further_on n room s o = bytes_then o.consumed o.events (run_from S 0 (room - length o.events) (drop (n + o.consumed) s) o.tables)

  onward-ahead : (room m n k : ℕ) (s x : List ℕ) (o : RunResult Tables) → m ≡ suc n
      → bytes_then m x (further_on n (room - length x) s o) ≡ further_on 0 room (k ∷ s) (bytes_then m x o)
  onward-ahead room m n k s x o q =
      let e : 0 + (m + o.consumed) ≡ suc (n + o.consumed) = omega arith in
      rw (e, length-append, sub-add-eq, append_assoc, add_assoc)

  pub run_resumed : (n room other : ℕ) (a b : List ℕ) (t : Tables) → n ≤ length a → room ≤ other
      → run_from S n other (a ++ b) t ≡ further_on n other (a ++ b) (run_from S n room a t)
  unfolding runner.run_from
  run_resumed n room other [] b t h w = let z : n ≡ 0 = omega arith in rw (z, sub-zero, zero-add)
  run_resumed (suc n) room other (x ∷ a) b t h w =
      let c = (run_from S n room a t).consumed in
      let e : suc n + c ≡ suc (n + c) = omega arith in
      rw e (run_resumed n room other a b t (le_of_suc-le-suc h) w)
  run_resumed zero room other (k ∷ a) b t h w =
      let x = log_bytes (events_of (step_at S k a t)) in
      let u = after t (step_at S k a t) in
      by_flag (λ (o : RunResult Tables). run_from S 0 other ((k ∷ a) ++ b) t ≡ further_on 0 other ((k ∷ a) ++ b) o) (goes_on (later_stop room k a)) _ _
      (λ z.
      let g = (going room k a z).whole in
      let y : goes_on (later_stop other k (a ++ b)) ≡ true = rw (later_more other k a b g) (later_wider room other k a w z) in
      let i = run_resumed (length_of k) (room - length x) (other - length x) a b u g (omega arith) in
      rw (y, step_more S k a b t g, i) (onward-ahead other (1 + length_of k) (length_of k) k (a ++ b) x (run_from S (length_of k) (room - length x) a u) (omega arith)))
      (λ z. rw (sub-zero, zero-add))

  -- a part that stopped with 0 has run all its bytes
  all_eaten : (n room : ℕ) (a : List ℕ) (t : Tables) → n ≤ length a → goes_on (run_from S n room a t).stop ≡ true → n + (run_from S n room a t).consumed ≡ length a
  unfolding runner.run_from
  all_eaten n room [] t h e = omega arith
  all_eaten (suc n) room (x ∷ a) t h e = let i = all_eaten n room a t (le_of_suc-le-suc h) e in omega arith
  all_eaten zero room (k ∷ a) t h e =
      let x = log_bytes (events_of (step_at S k a t)) in
      by_flag (λ (o : RunResult Tables). goes_on o.stop ≡ true → 0 + o.consumed ≡ suc (length a)) (goes_on (later_stop room k a)) _ _
      (λ z f. omega (arith, all_eaten (length_of k) (room - length x) a (after t (step_at S k a t)) (going room k a z).whole f))
      (λ z f. clash f z)
      e

  -- "cut between any two records, where the part before stopped with 0 and nothing stops with 16": each part in a room of its own
  pub run_cut : (room before behind : ℕ) (a b : List ℕ) (t : Tables) → goes_on (run_from S 0 before a t).stop ≡ true
      → ((run_from S 0 behind b (run_from S 0 before a t).tables).stop ≡ Some NoRoom → ⊥) → ((run_from S 0 room (a ++ b) t).stop ≡ Some NoRoom → ⊥)
      → run_from S 0 room (a ++ b) t
      ≡ bytes_then (run_from S 0 before a t).consumed (run_from S 0 before a t).events (run_from S 0 behind b (run_from S 0 before a t).tables)
  run_cut room before behind a b t e g h =
      let o = run_from S 0 before a t in
      let p : run_from S 0 room a t ≡ o = run_in_rooms S 0 room before a t (λ q. h (full_in_parts S 0 room a b t (omega arith) q)) (λ q. full_halts q e) in
      let d : drop (0 + o.consumed) (a ++ b) ≡ b = drop_at a b (0 + o.consumed) (sym (all_eaten 0 before a t (omega arith) e)) in
      let w : run_from S 0 room (a ++ b) t ≡ bytes_then o.consumed o.events (run_from S 0 (room - length o.events) b o.tables) =
      rw (p, d) at (run_resumed 0 room room a b t (omega arith) (omega arith)) in
      w ∙ ap (bytes_then o.consumed o.events) (run_in_rooms S 0 (room - length o.events) behind b o.tables (λ q. h (ap (λ (r : RunResult Tables). r.stop) w ∙ q)) g)

-- ---- a whole stream, in two parts

-- the settings of a body that is whole
pub settings_more : (k : ℕ) (a b : List ℕ) → length_of k ≤ length a → settings_of k (a ++ b) ≡ settings_of k a
settings_more k a b h = ap settings_in (take-append-le (length_of k) a b h)

pub first_more : (L : Lent) (k : ℕ) (a b : List ℕ) → length_of k ≤ length a → first_stop L k (a ++ b) ≡ first_stop L k a
unfolding runner.first_stop
first_more L k a b h =
    let l : length_of k ≤ length (a ++ b) = rw length-append (omega arith) in
    rw (le-ltb (length (a ++ b)) (length_of k) l, le-ltb (length a) (length_of k) h)
    (ap (λ (S : Settings). pick (is_command k) (pick (is_settings k) (settings_stop S L) (Some OutOfPlace)) (Some UnknownKind)) (settings_more k a b h))

-- ---- the first record of a front part, once it is there

pub there_none : (s : List ℕ) → length s ≡ 0 → false ≡ first_there s
unfolding first_there
there_none [] h = refl
there_none (x ∷ s) h = absurd (omega arith)

pub there_some : (s : List ℕ) → (length s ≡ 0 → ⊥) → {f : Result Body Stop} {n : Option Stop} {m : ℕ} → f ≡ read_at s 0 → n ≡ head_stop (record_kind_at s 0) f → m ≡ stop_number n
    → not (eqb m 15) ≡ first_there s
unfolding first_there
there_some [] h read d e = absurd (h refl)
there_some (k ∷ bs) h read d e = head-there (k ∷ bs) 0 (omega arith) read d e

first_there_lem : (L : Lent) (k : ℕ) (a b : List ℕ) → first_there (k ∷ a) ≡ true → first_stop L k (a ++ b) ≡ first_stop L k a
unfolding first_there runner.first_stop
first_there_lem L k a b h =
    ⊎_elim
    (λ z. let c : is_command k ≡ false = not-true (is_command k) z in rw c)
    (λ z. first_more L k a b (leb-true (length_of k) (length a) z))
    (or_cases (not (is_command k)) (leb (length_of k) (length a)) h)

-- what the first record comes to is the same, whatever follows
pub begins_more : (L : Lent) (s b : List ℕ) → first_there s ≡ true → beginning L (s ++ b) ≡ beginning L s
unfolding beginning
begins_more L [] b h = clash h (sym (there_none [] refl))
begins_more L (k ∷ a) b h =
    rw (first_there_lem L k a b h)
    (⊎_elim (λ z. rw (z, settings_more k a b (first_settled L k a z).whole)) (λ z. rw z) (flag (goes_on (first_stop L k a))))
