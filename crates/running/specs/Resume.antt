-- A run in parts: one record by itself, the usual records one after the other, and a run that goes on from a place of the stream behind event
-- bytes that are written.
-- Nothing here is document 01's.
use Rattle.model.specs.declared.Body.{Body}
use Rattle.std.specs.Prelude.{◌≡◌, Option, Some, None, Bool, true, false, not, ◌&&◌, ℕ, ◌+◌, ◌-◌, ◌≤◌, ◌<◌, List, eqb, length, take, drop, get_or, Result, Ok, Err}
use Rattle.words.specs.Words.{pick}
use Rattle.model.specs.Tables.{Tables, after, events_of}
use Rattle.model.specs.Lent.{Lent}
use Rattle.model.specs.Records.{is_command, is_settings, length_of, number_at, log_bytes}
use Rattle.model.specs.Runner.{event_room, room_stop, goes_on, later_stop, step_at, RunResult, halt, bytes_then, run_from, lent_result, Runs}
use Rattle.model.specs.Inner.{Encodes}
use Rattle.model.specs.declared.Settings.{Settings}
use Rattle.model.specs.declared.Access.{Access}
use Rattle.model.specs.declared.Access.TheVariants.{Read, Write}
use Rattle.model.specs.declared.Event.{Event}
use Rattle.model.specs.declared.Event.TheVariants.{Answered, Refused, ReadQueued, WriteBackQueued, Released, ReadSent, WriteBackSent, Filled, Ticked}
use Rattle.model.specs.declared.Stop.{Stop}
use Rattle.model.specs.declared.Stop.TheVariants.{OutOfPlace, UnknownKind}
use Rattle.model.specs.declared.Ran.{Ran}
use Rattle.layout.specs.declared.Layout.{Layout}
use Rattle.layout.specs.Places.{First}
use Rattle.running.specs.declared.record.Went.{Went}

-- the kind of the record at a place of a stream, and the bytes behind that
abbrev pub record_kind_at : List ℕ → ℕ → ℕ
record_kind_at s at = get_or s at 0

abbrev pub rest_at : List ℕ → ℕ → List ℕ
rest_at s at = drop (at + 1) s

-- a record of this kind is a step's: a command's, and no settings
abbrev pub is_step : ℕ → Bool
is_step k = is_command k && not (is_settings k)

-- the access of a body of kind 1, or else of kind 2: a write's ticket, which says nothing, is its mask
abbrev pub access_in : ℕ → List ℕ → Access
access_in k b = pick (eqb k 1) (Read (number_at b 0 8) 0 (number_at b 8 4)) (Write (number_at b 0 8) (number_at b 8 4) (number_at b 8 4))

-- what stops at the head of a record, of its kind and what reading it came to: "To the runner event kinds are unknown kinds", cut short or not
unfoldable pub head_stop : ℕ → Result Body Stop → Option Stop
head_stop k (Ok b) = pick (is_command k) None (Some UnknownKind)
head_stop k (Err r) = pick (is_command k) (Some r) (Some UnknownKind)

-- `record_stop` of the same, and `later_stop`
unfoldable pub found_stop : ℕ → Result Body Stop → Option Stop → Option Stop → Option Stop
found_stop k f of_settings of_other = pick (goes_on (head_stop k f)) (pick (is_settings k) of_settings of_other) (head_stop k f)

abbrev pub later_found : ℕ → ℕ → Result Body Stop → Option Stop
later_found room k f = found_stop k f (Some OutOfPlace) (room_stop room)

-- one record by itself, as the first turn of `run_from`
unfoldable pub single : Settings → ℕ → ℕ → List ℕ → Tables → RunResult Tables
single S room k rest t =
    pick (goes_on (later_stop room k rest))
    record {
      stop = None;
      consumed = 1 + length_of k;
      events = log_bytes (events_of (step_at S k rest t));
      tables = after t (step_at S k rest t);
    }
    (halt (later_stop room k rest) t)

abbrev pub record_from : Settings → List ℕ → ℕ → ℕ → List ℕ → Tables → RunResult Tables
record_from S s at out e = single S (length e - out) (record_kind_at s at) (rest_at s at)

abbrev pub rest_from : Settings → List ℕ → ℕ → ℕ → List ℕ → Tables → RunResult Tables
rest_from S s at out e = run_from S 0 (length e - out) (drop at s)

-- where a run stands: before byte `at` of the stream, behind `out` bytes of events
pub record RunAt (s : List ℕ) (at out : ℕ) (e : List ℕ) : Type 0 where
  pub inside : at ≤ length s
  pub room : out ≤ length e

-- nothing stops at the record there: it is of a step, whole, and its events have room
pub record RecordReady (s : List ℕ) (at out : ℕ) (e : List ℕ) : Type 0 where
  pub stands : RunAt s at out e
  pub inside : at < length s
  pub goes : goes_on (later_stop (length e - out) (record_kind_at s at) (rest_at s at)) ≡ true

-- the records that o runs from there, on the sound tables that L holds, leave this; consumed and written count from the start
pub record Resumes (S : Settings) (o : Tables → RunResult Tables) (s : List ℕ) (at out : ℕ) (e : List ℕ) (L : Lent) (r : Ran) (f : List ℕ) (M : Lent) : Type 0 where
  pub on : (t : Tables) → Encodes S L t → Runs (bytes_then at (take out e) (lent_result S (o t))) e r f M
  pub keeps : (t : Tables) → Encodes S L t → Encodes S M (o t).tables
  pub stands : RunAt s r.consumed r.written f

-- ---- the usual records

-- the record there is whole, if it is a step's, and its events have room
pub record UsualAt (s : List ℕ) (at out : ℕ) (e : List ℕ) : Type 0 where
  pub stands : RunAt s at out e
  pub inside : at < length s
  pub whole : is_step (record_kind_at s at) ≡ true → at + 1 + length_of (record_kind_at s at) ≤ length s
  pub roomy : out + event_room ≤ length e

-- a run that is so far, which nothing stops
abbrev pub ran_of : Went → Ran
ran_of w = record { stop = None; consumed = w.at; written = w.out }

-- a step's record is run by itself, and what that leaves is told; at another nothing is done
abbrev pub Tries : Settings → List ℕ → Went → List ℕ → Lent → Option Went → List ℕ → Lent → Type 0
Tries S s w e L None f M = (is_step (record_kind_at s w.at) ≡ false) × (f ≡ e) × (M ≡ L)
Tries S s w e L (Some v) f M = (is_step (record_kind_at s w.at) ≡ true) × Resumes S (record_from S s w.at w.out e) s w.at w.out e L (ran_of v) f M

-- from `from` on a step's record is whole that begins below `limit`
pub record WholeBelow (s : List ℕ) (from limit : ℕ) : Type 0 where
  pub inside : limit ≤ length s
  pub whole : (at : ℕ) → from ≤ at → at < limit → is_step (record_kind_at s at) ≡ true → at + 1 + length_of (record_kind_at s at) ≤ length s

module _ (S : Settings) (s : List ℕ) where
  -- a run from there, behind the events that are written
  abbrev pub whole_from : ℕ → ℕ → List ℕ → Tables → RunResult Tables
  whole_from at out e t = bytes_then at (take out e) (rest_from S s at out e t)

  -- from the tables that L holds the run from there comes to o
  pub record RunLeads (o : RunResult Tables) (at out : ℕ) (e : List ℕ) (L : Lent) : Type 0 where
    pub tables : Tables
    pub are : Encodes S L tables
    pub same : whole_from at out e tables ≡ o

  -- a run that has come to another place, on other tables, from which the rest gives what the whole gives
  pub record RunStands (at₀ out₀ : ℕ) (e₀ : List ℕ) (L₀ : Lent) (at out : ℕ) (e : List ℕ) (L : Lent) : Type 0 where
    pub here : RunAt s at out e
    pub further : at₀ ≤ at
    pub more : out₀ ≤ out
    pub size : length e ≡ length e₀
    pub longs : length L.longs ≡ length L₀.longs
    pub words : length L.words ≡ length L₀.words
    pub marks : length L.marks ≡ length L₀.marks
    pub beyond : drop out e ≡ drop out e₀
    pub leads : (t₀ : Tables) → Encodes S L₀ t₀ → RunLeads (whole_from at₀ out₀ e₀ t₀) at out e L

-- ---- what is in use

-- so many queue places and miss entries, in the marks
pub record UsedInMarks (S : Settings) (at : Layout) (marks : List ℕ) (q m : ℕ) : Type 0 where
  pub queue : First marks at.kinds S.queue 0 q
  pub misses : First marks at.counts S.misses 0 m

-- of those that a record left, or else those of before
abbrev pub UsedAfter : Settings → Layout → List ℕ → Went → Option Went → Type 0
UsedAfter S at marks w None = UsedInMarks S at marks w.queued w.missed
UsedAfter S at marks w (Some v) = UsedInMarks S at marks v.queued v.missed

-- of n miss entries, those that a fill leaves which tells this event first
abbrev pub entries_left : Event → ℕ → ℕ
entries_left (Filled a) n = n - 1
entries_left (Answered a line) n = n
entries_left (Refused r) n = n
entries_left (ReadQueued a) n = n
entries_left (WriteBackQueued b m0 m1 m2 m3) n = n
entries_left (Released t) n = n
entries_left (ReadSent a) n = n
entries_left (WriteBackSent b m0 m1 m2 m3) n = n
entries_left Ticked n = n
