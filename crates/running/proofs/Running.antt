-- A run record by record: the checks at a record, what is passed over, the end of input, a record that stops, a record that is run.
use Rattle.std.specs.Prelude.{Option, Some, None}
use Rattle.words.proofs.General.{ℕ, zero, suc, ◌+◌, ◌-◌, ◌≤◌, ◌<◌, le_of_suc-le-suc, add_assoc, add-one, arith, ◌≡◌, refl, true, false, List, [], ◌∷◌, length, drop, length-drop}
use Rattle.words.proofs.General.{drop-cons, drop-drop, ltb, ltb-true, ltb-false, clash, by_flag}
use Rattle.model.proofs.Terms.{Tables, after, events_of, is_command, is_settings, length_of, log_bytes, event_room, record_stop, later_stop, goes_on, step_at, RunResult, halt, bytes_then}
use Rattle.model.proofs.Terms.{run_from}
use Rattle.model.specs.RunnerOf as runner
use Rattle.model.specs.declared.Settings.{Settings}
use Rattle.model.specs.declared.Stop.{Stop}
use Rattle.model.specs.declared.Stop.TheVariants as stop
use Rattle.running.specs.Resume.{record_kind_at, rest_at, single}

-- ---- the checks at a record: what holds of each stop that they may come to, where they come to it, holds of their stop

pub by_record : (P : Option Stop → Type 0) (k : ℕ) (rest : List ℕ) {a b : Option Stop} → (is_command k ≡ false → P (Some stop.UnknownKind))
    → (is_command k ≡ true → length rest < length_of k → P (Some stop.CutShort)) → (is_command k ≡ true → length_of k ≤ length rest → is_settings k ≡ true → P a)
    → (is_command k ≡ true → length_of k ≤ length rest → is_settings k ≡ false → P b) → P (record_stop k rest a b)
by_record P k rest unknown cut settings other =
    by_flag P (is_command k) _ _
    (λ c. by_flag P (ltb (length rest) (length_of k)) _ _ (λ w. cut c (ltb-true _ _ w))
    (λ w. let l = ltb-false (length rest) (length_of k) w in by_flag P (is_settings k) _ _ (settings c l) (other c l)))
    unknown

-- ---- at a later record, where it goes on

pub record Going (room k : ℕ) (rest : List ℕ) : Type 0 where
  pub command : is_command k ≡ true
  pub whole : length_of k ≤ length rest
  pub later : is_settings k ≡ false
  pub roomy : event_room ≤ room

pub going : (room k : ℕ) (rest : List ℕ) → goes_on (later_stop room k rest) ≡ true → Going room k rest
unfolding runner.later_stop
going room k rest =
    by_record (λ n. goes_on n ≡ true → Going room k rest) k rest (λ z h. clash h refl) (λ c w h. clash h refl) (λ c w z h. clash h refl)
    (λ c w z. by_flag (λ n. goes_on n ≡ true → Going room k rest) (ltb room event_room) _ _ (λ d h. clash h refl)
    (λ d h. record { command = c; whole = w; later = z; roomy = ltb-false room event_room d }))

-- ---- what is passed over

module _ (S : Settings) where
  pub run_skips : (n room : ℕ) (s : List ℕ) (t : Tables) → n ≤ length s → run_from S n room s t ≡ run_from S 0 room (drop n s) t
  unfolding runner.run_from
  run_skips zero room s t h = refl
  run_skips (suc n) room [] t h = absurd (omega arith)
  run_skips (suc n) room (b ∷ s) t h = run_skips n room s t (le_of_suc-le-suc h)

-- ---- at the kind of a record

module _ (S : Settings) (room k : ℕ) (rest : List ℕ) (t : Tables) where
  pub from_stops : goes_on (later_stop room k rest) ≡ false → run_from S 0 room (k ∷ rest) t ≡ halt (later_stop room k rest) t
  unfolding runner.run_from
  from_stops z = rw z

  pub from_goes : goes_on (later_stop room k rest) ≡ true
      → run_from S 0 room (k ∷ rest) t
      ≡ bytes_then (1 + length_of k) (log_bytes (events_of (step_at S k rest t)))
      (run_from S (length_of k) (room - length (log_bytes (events_of (step_at S k rest t)))) rest (after t (step_at S k rest t)))
  unfolding runner.run_from
  from_goes z = rw z

-- ---- at a place of the stream

none_left : (S : Settings) (room : ℕ) (s : List ℕ) (t : Tables) → length s ≡ 0 → run_from S 0 room s t ≡ halt None t
unfolding runner.run_from
none_left S room [] t e = refl
none_left S room (b ∷ s) t e = absurd (omega arith)

pub run_ends : (S : Settings) (room : ℕ) (s : List ℕ) (at : ℕ) (t : Tables) → length s ≤ at → run_from S 0 room (drop at s) t ≡ halt None t
run_ends S room s at t h = none_left S room (drop at s) t (rw length-drop (omega arith))

module _ (S : Settings) (room : ℕ) (s : List ℕ) (at : ℕ) (t : Tables) (inside : at < length s) where
  abbrev k : ℕ
  k = record_kind_at s at

  opened : drop at s ≡ k ∷ rest_at s at
  opened = rw (add-one, drop-cons s at 0)

  -- that record by itself
  abbrev result_now : RunResult Tables
  result_now = single S room k (rest_at s at) t

  pub single_stops : goes_on result_now.stop ≡ false → run_from S 0 room (drop at s) t ≡ result_now
  unfolding single
  single_stops =
      by_flag (λ (o : RunResult Tables). goes_on o.stop ≡ false → run_from S 0 room (drop at s) t ≡ o) (goes_on (later_stop room k (rest_at s at))) _ _
      (λ z h. clash refl h)
      (λ z h. rw opened (from_stops S room k (rest_at s at) t z))

  pub single-goes : goes_on result_now.stop ≡ true
      → run_from S 0 room (drop at s) t
      ≡ bytes_then result_now.consumed result_now.events (run_from S 0 (room - length result_now.events) (drop (at + result_now.consumed) s) result_now.tables)
  unfolding single
  single-goes =
      by_flag
      (λ (o : RunResult Tables). goes_on o.stop ≡ true
      → run_from S 0 room (drop at s) t ≡ bytes_then o.consumed o.events (run_from S 0 (room - length o.events) (drop (at + o.consumed) s) o.tables))
      (goes_on (later_stop room k (rest_at s at))) _ _
      (λ z h. rw (opened, from_goes S room k (rest_at s at) t z, run_skips S (length_of k) _ (rest_at s at) _ (going room _ _ z).whole, drop-drop, add_assoc))
      (λ z h. clash h z)

  -- a record that is run is a byte or more
  pub single_further : goes_on result_now.stop ≡ true → 0 < result_now.consumed
  unfolding single
  single_further =
      by_flag (λ (o : RunResult Tables). goes_on o.stop ≡ true → 0 < o.consumed) (goes_on (later_stop room k (rest_at s at))) _ _
      (λ z h. omega arith)
      (λ z h. clash h z)
