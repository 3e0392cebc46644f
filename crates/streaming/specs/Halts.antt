-- Where a run in parts stands before the bytes that wait: what its last stop says of them.
use Rattle.std.specs.Prelude.{◌≡◌, ℕ, ◌≤◌, Bool, true, false, List, [], ◌∷◌, ◌++◌, length, Option, Some, None}
use Rattle.model.specs.Tables.{Tables}
use Rattle.model.specs.Records.{is_command, length_of}
use Rattle.model.specs.Runner.{event_room, halt, run_from}
use Rattle.model.specs.declared.Settings.{Settings}
use Rattle.model.specs.declared.Stop.{Stop}
use Rattle.model.specs.declared.Stop.TheVariants as stop
use Rattle.streaming.specs.declared.work.Next.{Next}
use Rattle.streaming.specs.declared.work.Next.TheVariants as next
use Rattle.streaming.specs.declared.scope.Scope.{Scope}
use Rattle.streaming.specs.declared.scope.Scope.TheVariants as scope

-- the stops of the end of the input: "At the end of input: stop number 0", and 15 of what lacks there
abbrev pub of_end : Option Stop → Bool
of_end None = true
of_end (Some stop.CutShort) = true
of_end (Some stop.SettingOutOfRange) = false
of_end (Some stop.SliceLength) = false
of_end (Some stop.NotSound) = false
of_end (Some stop.OutOfPlace) = false
of_end (Some stop.UnknownKind) = false
of_end (Some stop.NoRoom) = false

-- what is claimed of the input where a run stands, before so many bytes that wait: one that has stopped does not rest on the end; that the
-- input ends behind those bytes is the system's word
abbrev pub Claims : Next → Option Stop → ℕ → Type 0
Claims next.Read n have = Unit
Claims next.Run n have = Unit
Claims next.Stopped n have = of_end n ≡ false
Claims (next.Ended e) n have = e.behind ≡ have
Claims next.Failed n have = Unit

-- what may come behind bytes at which a run stops so: nothing at the end; the other stops come whatever follows
abbrev pub MayFollow : Option Stop → List ℕ → Type 0
MayFollow n b = of_end n ≡ true → b ≡ []

-- the run of the bytes p, from the tables t, stops before the first of them
abbrev pub Halts : Settings → Option Stop → List ℕ → Tables → Type 0
Halts S n p t = (b : List ℕ) (room : ℕ) → MayFollow n b → event_room ≤ room → run_from S 0 room (p ++ b) t ≡ halt n t

-- one record of a command, whole or cut short, or none
abbrev pub OneRecord : List ℕ → Type 0
OneRecord [] = Unit
OneRecord (k ∷ bs) = (is_command k ≡ true) × (length bs ≤ length_of k)

-- all before the last record has run, or the run stops before that
abbrev pub Lasts : Settings → Option Stop → List ℕ → Tables → Type 0
Lasts S None p t = OneRecord p
Lasts S (Some stop.CutShort) p t = ⊥
Lasts S (Some stop.SettingOutOfRange) p t = Halts S (Some stop.SettingOutOfRange) p t
Lasts S (Some stop.SliceLength) p t = Halts S (Some stop.SliceLength) p t
Lasts S (Some stop.NotSound) p t = Halts S (Some stop.NotSound) p t
Lasts S (Some stop.OutOfPlace) p t = Halts S (Some stop.OutOfPlace) p t
Lasts S (Some stop.UnknownKind) p t = Halts S (Some stop.UnknownKind) p t
Lasts S (Some stop.NoRoom) p t = Halts S (Some stop.NoRoom) p t

abbrev pub StopsBefore : Settings → Scope → Option Stop → List ℕ → Tables → Type 0
StopsBefore S scope.All n p t = Halts S n p t
StopsBefore S scope.BeforeLast n p t = Lasts S n p t

-- where the run has stopped, or would at the end of its input
abbrev pub Before : Settings → Scope → Next → Option Stop → List ℕ → Tables → Type 0
Before S k next.Read n p t = StopsBefore S k n p t
Before S k next.Run n p t = Unit
Before S k next.Stopped n p t = StopsBefore S k n p t
Before S k (next.Ended e) n p t = StopsBefore S k n p t
Before S k next.Failed n p t = Unit
