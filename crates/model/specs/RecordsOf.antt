-- "Records", over a format: the lengths of bodies, little-endian numbers, events and commands as bytes and out of bytes, reading a record
-- at a place of a stream, the events of a whole log.
use Rattle.model.specs.declared.Body.{Body}
use Rattle.model.specs.declared.Stop.{Stop}
use Rattle.std.specs.Prelude.{ℕ, zero, suc, ◌+◌, ◌*◌, ◌-◌, ◌/◌, ◌%◌, Bool, List, [], ◌∷◌, ◌++◌, length, take, drop, get_or, ltb, leb, eqb, Option, Some, None, Result, Ok, Err}
use Rattle.words.specs.Words.{pick, all, any, within}
use Rattle.model.specs.Numbers.{answer_number, refusal_number}
use Rattle.model.specs.Kinds as kinds
use Rattle.model.specs.Format.{Format, Kind, command_kinds, event_kinds, settings_kinds, read_kind, released_kind, ticket_bytes}
use Rattle.model.specs.declared.Settings.{Settings}
use Rattle.model.specs.declared.Given.{Given}
use Rattle.model.specs.declared.Answer.TheVariants.{Hit, HitReserved, Miss, SectorMiss}
use Rattle.model.specs.declared.Refusal.{Refusal}
use Rattle.model.specs.declared.Refusal.TheVariants as refusal
use Rattle.model.specs.declared.Event.{Event}
use Rattle.model.specs.declared.Event.TheVariants as ev
use Rattle.model.specs.declared.Command.{Command}
use Rattle.model.specs.declared.Command.TheVariants as cmd
use Rattle.model.specs.declared.Stop.TheVariants.{UnknownKind, CutShort}

-- numbers that are bytes: the code knows that of any stream
abbrev pub bytes : List ℕ → Bool
bytes = all (λ b. ltb b 256)

-- ---- "Body length is fixed by kind through this table"

-- what stands for the length of a kind in neither list; no body is as long
abbrev pub no_kind : ℕ
no_kind = 255

abbrev pub body_in : ℕ → List Kind → ℕ
body_in k [] = no_kind
body_in k (x ∷ xs) = pick (eqb k x.kind) x.body (body_in k xs)

module _ (F : Format) where
  -- the length of a body of kind k
  unfoldable pub length_of : ℕ → ℕ
  length_of k = body_in k (command_kinds F ++ event_kinds F)

  abbrev pub is_command : ℕ → Bool
  is_command k = any (λ x. eqb k x.kind) (command_kinds F)

  abbrev pub is_settings : ℕ → Bool
  is_settings k = any (eqb k) (settings_kinds F)

-- ---- "numbers are little-endian"

-- x in n bytes, the lowest first
unfoldable pub bytes_of : ℕ → ℕ → List ℕ
bytes_of zero x = []
bytes_of (suc n) x = x % 256 ∷ bytes_of n (x / 256)

-- the number in n bytes of s from index at; 0 for bytes past the end
unfoldable pub number_at : List ℕ → ℕ → ℕ → ℕ
number_at s at zero = 0
number_at s at (suc n) = number_at s (suc at) n * 256 + get_or s at 0

-- the n bytes of s from index at
abbrev pub part : List ℕ → ℕ → ℕ → List ℕ
part s at n = take n (drop at s)

-- ---- events as bytes

-- "block 8, masks 16: 24"
abbrev pub write_back_bytes : ℕ → ℕ → ℕ → ℕ → ℕ → List ℕ
write_back_bytes b m0 m1 m2 m3 = bytes_of 8 b ++ (bytes_of 4 m0 ++ (bytes_of 4 m1 ++ (bytes_of 4 m2 ++ bytes_of 4 m3)))

module _ (F : Format) where
  abbrev pub record_kind_of : Event → ℕ
  record_kind_of (ev.Answered a line) = kinds.answer
  record_kind_of (ev.Refused n) = kinds.refused
  record_kind_of (ev.ReadQueued a) = kinds.read_queued
  record_kind_of (ev.WriteBackQueued b m0 m1 m2 m3) = kinds.write_back_queued
  record_kind_of (ev.Released t) = released_kind F
  record_kind_of (ev.ReadSent a) = kinds.read_sent
  record_kind_of (ev.WriteBackSent b m0 m1 m2 m3) = kinds.write_back_sent
  record_kind_of (ev.Filled a) = kinds.filled
  record_kind_of ev.Ticked = kinds.ticked

  abbrev pub body_bytes : Event → List ℕ
  body_bytes (ev.Answered a line) = bytes_of 1 (answer_number a) ++ bytes_of 2 line
  body_bytes (ev.Refused n) = bytes_of 1 (refusal_number n)
  body_bytes (ev.ReadQueued a) = bytes_of 8 a
  body_bytes (ev.WriteBackQueued b m0 m1 m2 m3) = write_back_bytes b m0 m1 m2 m3
  body_bytes (ev.Released t) = bytes_of (ticket_bytes F) t
  body_bytes (ev.ReadSent a) = bytes_of 8 a
  body_bytes (ev.WriteBackSent b m0 m1 m2 m3) = write_back_bytes b m0 m1 m2 m3
  body_bytes (ev.Filled a) = bytes_of 8 a
  body_bytes ev.Ticked = []

  -- "One byte of kind, then a body."
  unfoldable pub event_bytes : Event → List ℕ
  event_bytes e = record_kind_of e ∷ body_bytes e

  unfoldable pub log_bytes : List Event → List ℕ
  log_bytes [] = []
  log_bytes (e ∷ es) = event_bytes e ++ log_bytes es

-- ---- events out of a body; a body that is no event's says so

abbrev pub answered : ℕ → ℕ → Option Event
answered n line =
    pick (eqb n 1) (Some (ev.Answered Hit line)) (
    pick (eqb n 2) (Some (ev.Answered HitReserved line)) (
    pick (eqb n 3) (Some (ev.Answered Miss line)) (
    pick (eqb n 4) (Some (ev.Answered SectorMiss line))
    None)))

-- the refusals in the order of their numbers, from 1 on
abbrev pub refusals : List Refusal
refusals =
    refusal.SettingOutOfRange
    ∷ refusal.SliceLength
    ∷ refusal.NotSound
    ∷ refusal.BadAccess
    ∷ refusal.SetBusy
    ∷ refusal.SetHeld
    ∷ refusal.QueueFull
    ∷ refusal.EntryFull
    ∷ refusal.MissTableFull
    ∷ refusal.NotSent
    ∷ refusal.BadCycle
    ∷ refusal.QueueEmpty
    ∷ []

abbrev pub refused_by : ℕ → Option Event
refused_by n = pick (within 1 12 n) (Some (ev.Refused (get_or refusals (n - 1) refusal.QueueEmpty))) None

module _ (F : Format) where
  abbrev pub event_body : ℕ → List ℕ → Option Event
  event_body k b =
      pick (eqb k kinds.answer) (answered (number_at b 0 1) (number_at b 1 2)) (
      pick (eqb k kinds.refused) (refused_by (number_at b 0 1)) (
      pick (eqb k kinds.read_queued) (Some (ev.ReadQueued (number_at b 0 8))) (
      pick (eqb k kinds.write_back_queued) (Some (ev.WriteBackQueued (number_at b 0 8) (number_at b 8 4) (number_at b 12 4) (number_at b 16 4) (number_at b 20 4))) (
      pick (eqb k (released_kind F)) (Some (ev.Released (number_at b 0 (ticket_bytes F)))) (
      pick (eqb k kinds.read_sent) (Some (ev.ReadSent (number_at b 0 8))) (
      pick (eqb k kinds.write_back_sent) (Some (ev.WriteBackSent (number_at b 0 8) (number_at b 8 4) (number_at b 12 4) (number_at b 16 4) (number_at b 20 4))) (
      pick (eqb k kinds.filled) (Some (ev.Filled (number_at b 0 8))) (
      pick (eqb k kinds.ticked) (Some ev.Ticked)
      None))))))))

  -- a body of another length than its kind's is no event's
  unfoldable pub event_of : ℕ → List ℕ → Option Event
  event_of k b = pick (eqb (length b) (length_of F k)) (event_body k b) None

-- ---- commands as bytes and out of a body, unjudged

-- "settings (sets 2, ways, P, M, W, Q one each: 7)", kind 6 "one byte more" (L1), of a body of any settings kind: what a shorter one
-- lacks is 0, as `number_at` has it
abbrev pub settings_in : List ℕ → Settings
settings_in b = record {
  sets = number_at b 0 2;
  ways = number_at b 2 1;
  dirty = number_at b 3 1;
  misses = number_at b 4 1;
  readers = number_at b 5 1;
  queue = number_at b 6 1;
  rule = number_at b 7 1;
}

-- the same, as the record of kind k gives them
abbrev pub rule_in : ℕ → List ℕ → Option ℕ
rule_in k b = pick (eqb k kinds.ruled) (Some (number_at b 7 1)) None

abbrev pub given_in : ℕ → List ℕ → Given
given_in k b = record {
  sets = number_at b 0 2;
  ways = number_at b 2 1;
  dirty = number_at b 3 1;
  misses = number_at b 4 1;
  readers = number_at b 5 1;
  queue = number_at b 6 1;
  rule = rule_in k b;
}

abbrev pub settings_kind : Option ℕ → ℕ
settings_kind None = kinds.settings
settings_kind (Some r) = kinds.ruled

abbrev pub rule_bytes : Option ℕ → List ℕ
rule_bytes None = []
rule_bytes (Some r) = bytes_of 1 r

abbrev pub given_bytes : Given → List ℕ
given_bytes g =
    bytes_of 2 g.sets
    ++ (bytes_of 1 g.ways
    ++ (bytes_of 1 g.dirty ++ (bytes_of 1 g.misses ++ (bytes_of 1 g.readers ++ (bytes_of 1 g.queue ++ rule_bytes g.rule)))))

module _ (F : Format) where
  abbrev pub command_kind : Command → ℕ
  command_kind (cmd.Settings g) = settings_kind g.rule
  command_kind (cmd.Read a k) = read_kind F
  command_kind (cmd.Write a m) = kinds.write
  command_kind cmd.Send = kinds.send
  command_kind (cmd.Fill a) = kinds.fill
  command_kind (cmd.Tick c) = kinds.tick

  abbrev pub command_body : Command → List ℕ
  command_body (cmd.Settings g) = given_bytes g
  command_body (cmd.Read a k) = bytes_of 8 a ++ bytes_of (ticket_bytes F) k
  command_body (cmd.Write a m) = bytes_of 8 a ++ bytes_of 4 m
  command_body cmd.Send = []
  command_body (cmd.Fill a) = bytes_of 8 a
  command_body (cmd.Tick c) = bytes_of 4 c

  unfoldable pub command_bytes : Command → List ℕ
  command_bytes c = command_kind c ∷ command_body c

  abbrev pub command_in : ℕ → List ℕ → Option Command
  command_in k b =
      pick (is_settings F k) (Some (cmd.Settings (given_in k b))) (
      pick (eqb k (read_kind F)) (Some (cmd.Read (number_at b 0 8) (number_at b 8 (ticket_bytes F)))) (
      pick (eqb k kinds.write) (Some (cmd.Write (number_at b 0 8) (number_at b 8 4))) (
      pick (eqb k kinds.send) (Some cmd.Send) (
      pick (eqb k kinds.fill) (Some (cmd.Fill (number_at b 0 8))) (
      pick (eqb k kinds.tick) (Some (cmd.Tick (number_at b 0 4)))
      None)))))

  -- a body of another length than its kind's is no command's
  unfoldable pub command_of : ℕ → List ℕ → Option Command
  command_of k b = pick (eqb (length b) (length_of F k)) (command_in k b) None

-- ---- "Reading a record hands back the part of the caller's stream that holds its body, unjudged"

-- a record that is there whole
abbrev pub whole_record : ℕ → ℕ → ℕ → ℕ → Result Body Stop
whole_record k start n next = Ok record { kind = k; start = start; len = n; next = next }

-- at a kind k whose body is n bytes, with m bytes after it: "it refuses with 14 (a kind in neither list), then 15"
abbrev pub record_at : ℕ → ℕ → ℕ → ℕ → Result Body Stop
record_at at k n m = pick (eqb n no_kind) (Err UnknownKind) (pick (leb n m) (whole_record k (at + 1) n (at + 1 + n)) (Err CutShort))

abbrev pub body_of : List ℕ → Result Body Stop → List ℕ
body_of s (Ok b) = part s b.start b.len
body_of s (Err r) = []

module _ (F : Format) where
  -- "also where no byte is left"
  unfoldable pub read_at : List ℕ → ℕ → Result Body Stop
  read_at s at = pick (ltb at (length s)) (record_at at (get_or s at 0) (length_of F (get_or s at 0)) (length s - (at + 1))) (Err CutShort)

  -- the body of the record at a place; nothing where reading stops
  unfoldable pub body_at : List ℕ → ℕ → List ℕ
  body_at s at = body_of s (read_at s at)

  abbrev pub event_in : List ℕ → Result Body Stop → Option Event
  event_in s (Ok b) = event_of F b.kind (part s b.start b.len)
  event_in s (Err r) = None

  unfoldable pub event_at : List ℕ → ℕ → Option Event
  event_at s at = event_in s (read_at s at)

  abbrev pub command_in_record : List ℕ → Result Body Stop → Option Command
  command_in_record s (Ok b) = command_of F b.kind (part s b.start b.len)
  command_in_record s (Err r) = None

  unfoldable pub command_at : List ℕ → ℕ → Option Command
  command_at s at = command_in_record s (read_at s at)

-- ---- all the events of a log, or that some record of it is none

pub data Parsed : Type 0 where
  parsed : List Event → Parsed
  broken : Parsed

abbrev pub before : Option Event → Parsed → Parsed
before (Some e) (parsed es) = parsed (e ∷ es)
before (Some e) broken = broken
before None p = broken

abbrev pub next_of : Result Body Stop → ℕ → ℕ
next_of (Ok b) at = b.next
next_of (Err r) at = at

module _ (F : Format) where
  -- from a place on, n records at most
  unfoldable pub events_from : ℕ → List ℕ → ℕ → Parsed
  events_from zero s at = pick (ltb at (length s)) broken (parsed [])
  events_from (suc n) s at =
      pick (ltb at (length s)) (before (event_at F s at) (events_from n s (next_of (read_at F s at) at))) (parsed [])

  -- every record is a byte or more
  unfoldable pub events_in : List ℕ → Parsed
  events_in s = events_from (length s) s 0
