-- "Records", the runner, over a format: the checks at a record, what a record does, the run of a stream as a fold over its bytes.
use Rattle.std.specs.Prelude.{ℕ, zero, suc, ◌+◌, ◌-◌, ◌≡◌, Bool, List, [], ◌∷◌, ◌++◌, length, take, drop, ltb, eqb, Option, Some, None, is_none}
use Rattle.words.specs.Words.{pick}
use Rattle.model.specs.Numbers.{stop_number}
use Rattle.model.specs.Range.{in_range}
use Rattle.model.specs.Tables.{Tables, start, Outcome, refused, after, events_of}
use Rattle.model.specs.Lent.{Lent, lengths_fit, tables_of, encode}
use Rattle.model.specs.SoundLent.{sound_lent}
use Rattle.model.specs.Steps.{access, send, fill, tick}
use Rattle.model.specs.Format.{Format, event_room}
use Rattle.model.specs.RecordsOf.{is_command, is_settings, length_of, settings_in, command_of, log_bytes}
use Rattle.model.specs.declared.Settings.{Settings}
use Rattle.model.specs.declared.Access.TheVariants.{Read, Write}
use Rattle.model.specs.declared.Refusal.TheVariants as refusal
use Rattle.model.specs.declared.Command.{Command}
use Rattle.model.specs.declared.Command.TheVariants as cmd
use Rattle.model.specs.declared.Stop.{Stop}
use Rattle.model.specs.declared.Stop.TheVariants.{SettingOutOfRange, SliceLength, NotSound, OutOfPlace, UnknownKind, CutShort, NoRoom}
use Rattle.model.specs.declared.Stop.TheVariants as stop
use Rattle.model.specs.declared.Ran.{Ran}

-- ---- "checks at a record in this order: 14 unknown kind, 15 cut short, 13 kind 0 not first or another kind first, 1 bad settings,
-- 2 lent tables of another length, 16 fewer than 64 bytes of event room (not asked of kind 0)"

-- 1 and 2, then what is asked next
abbrev pub lent_stop : Settings → Lent → Option Stop → Option Stop
lent_stop S L next = pick (in_range S) (pick (lengths_fit S L) next (Some SliceLength)) (Some SettingOutOfRange)

abbrev pub settings_stop : Settings → Lent → Option Stop
settings_stop S L = lent_stop S L None

module _ (F : Format) where
  -- the settings in the body of a record of kind k, with the bytes behind its kind
  abbrev pub settings_of : ℕ → List ℕ → Settings
  settings_of k rest = settings_in (take (length_of F k) rest)

  -- at any record: its kind k, the bytes behind that, and what is asked next of settings and of another kind; "To the runner event kinds are
  -- unknown kinds"
  abbrev pub record_stop : ℕ → List ℕ → Option Stop → Option Stop → Option Stop
  record_stop k rest of_settings of_other =
      pick (is_command F k) (pick (ltb (length rest) (length_of F k)) (Some CutShort) (pick (is_settings F k) of_settings of_other)) (Some UnknownKind)

  abbrev pub room_stop : ℕ → Option Stop
  room_stop room = pick (ltb room (event_room F)) (Some NoRoom) None

  -- at the first one
  unfoldable pub first_stop : Lent → ℕ → List ℕ → Option Stop
  first_stop L k rest = record_stop k rest (settings_stop (settings_of k rest) L) (Some OutOfPlace)

  -- at a later one, with this much event room
  unfoldable pub later_stop : ℕ → ℕ → List ℕ → Option Stop
  later_stop room k rest = record_stop k rest (Some OutOfPlace) (room_stop room)

abbrev pub goes_on : Option Stop → Bool
goes_on s = is_none s

-- ---- what a record does

abbrev pub step_of : Settings → Command → Tables → Outcome Tables
step_of S (cmd.Read a k) t = access S (Read a 0 k) t
step_of S (cmd.Write a m) t = access S (Write a m 0) t
step_of S cmd.Send t = send t
step_of S (cmd.Fill a) t = fill a t
step_of S (cmd.Tick c) t = tick c t
step_of S (cmd.Settings g) t = refused refusal.SettingOutOfRange

-- the mask of a command, if it has one
abbrev pub command_mask : Command → ℕ
command_mask (cmd.Settings g) = 0
command_mask (cmd.Read a k) = 0
command_mask (cmd.Write a m) = m
command_mask cmd.Send = 0
command_mask (cmd.Fill a) = 0
command_mask (cmd.Tick c) = 0

abbrev pub step_read : Settings → Option Command → Tables → Outcome Tables
step_read S (Some c) t = step_of S c t
step_read S None t = refused refusal.SettingOutOfRange

module _ (F : Format) where
  -- the step of kind k with the body that the rest begins with; later_stop lets no settings through, and whole bodies alone
  unfoldable pub step_at : Settings → ℕ → List ℕ → Tables → Outcome Tables
  step_at S k rest t = step_read S (command_of F k (take (length_of F k) rest)) t

-- ---- the run

pub record RunResult (T : Type 0) : Type 0 where
  pub stop : Option Stop
  pub consumed : ℕ
  pub events : List ℕ
  pub tables : T

module _ {T : Type 0} where
  abbrev pub halt : Option Stop → T → RunResult T
  halt n t = record { stop = n; consumed = 0; events = []; tables = t }

  -- n bytes and the event bytes es, then what o says
  abbrev pub bytes_then : ℕ → List ℕ → RunResult T → RunResult T
  bytes_then n es o = record { stop = o.stop; consumed = n + o.consumed; events = es ++ o.events; tables = o.tables }

-- the slices of tables
abbrev pub lent_result : Settings → RunResult Tables → RunResult Lent
lent_result S o = record { stop = o.stop; consumed = o.consumed; events = o.events; tables = encode S o.tables }

module _ (F : Format) where
  -- the records of the bytes, behind n bytes that are passed over: the body of a record that has been run. "Other refusals become 0x11
  -- and the run goes on. At the end of input: stop number 0."
  unfoldable pub run_from : Settings → ℕ → ℕ → List ℕ → Tables → RunResult Tables
  run_from S n room [] t = halt None t
  run_from S (suc n) room (b ∷ bs) t = run_from S n room bs t
  run_from S zero room (k ∷ bs) t =
      pick (goes_on (later_stop F room k bs))
      (bytes_then (1 + length_of F k) (log_bytes F (events_of (step_at F S k bs t)))
      (run_from S (length_of F k) (room - length (log_bytes F (events_of (step_at F S k bs t)))) bs (after t (step_at F S k bs t))))
      (halt (later_stop F room k bs) t)

  -- "A stream starts with one kind 0, which makes the lent tables fresh and writes no event; until it is accepted they are unchanged"
  unfoldable pub run : ℕ → List ℕ → Lent → RunResult Lent
  run room [] L = halt None L
  run room (k ∷ bs) L =
      pick (goes_on (first_stop F L k bs))
      (bytes_then (1 + length_of F k) []
      (lent_result (settings_of F k bs) (run_from (settings_of F k bs) (length_of F k) room bs (start (settings_of F k bs)))))
      (halt (first_stop F L k bs) L)

-- ---- a run that goes on from kept tables and settings: "a part that goes on stops with 1, 2 or 3 before its first record, and with 13 at
-- any settings record"

abbrev pub kept_stop : Settings → Lent → Option Stop
kept_stop S L = lent_stop S L (pick (sound_lent S L) None (Some NotSound))

module _ (F : Format) where
  -- checked once, and also where there is no record; its records are later ones, of which settings are out of place
  unfoldable pub resume : Settings → ℕ → List ℕ → Lent → RunResult Lent
  resume S room s L = pick (goes_on (kept_stop S L)) (lent_result S (run_from F S 0 room s (tables_of S L))) (halt (kept_stop S L) L)

-- ---- what the caller holds afterwards: the value returned, the event bytes ("beyond those written are unchanged"), the slices

pub record Runs (o : RunResult Lent) (e : List ℕ) (r : Ran) (f : List ℕ) (M : Lent) : Type 0 where
  pub stop : r.stop ≡ o.stop
  pub consumed : r.consumed ≡ o.consumed
  pub written : r.written ≡ length o.events
  pub events : f ≡ o.events ++ drop (length o.events) e
  pub tables : M ≡ o.tables
