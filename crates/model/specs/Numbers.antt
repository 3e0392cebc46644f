-- Document 01's numbers: of a sector's status ("The modelled cache"), of an answer ("Records"), of a refusal ("Refusal numbers"),
-- of a stop ("Records"). And the number by which the lent slices have a queued entry's kind.
use Rattle.std.specs.Prelude.{ℕ, eqb, Option, Some, None}
use Rattle.words.specs.Words.{pick}
use Rattle.model.specs.declared.Status.{Status}
use Rattle.model.specs.declared.Status.TheVariants.{Invalid, Reserved, Valid, Modified}
use Rattle.model.specs.declared.QueueKind.{QueueKind}
use Rattle.model.specs.declared.QueueKind.TheVariants as queue
use Rattle.model.specs.declared.Answer.{Answer}
use Rattle.model.specs.declared.Answer.TheVariants.{Hit, HitReserved, Miss, SectorMiss}
use Rattle.model.specs.declared.Refusal.{Refusal}
use Rattle.model.specs.declared.Refusal.TheVariants.{SettingOutOfRange, SliceLength, NotSound, BadAccess, SetBusy, SetHeld, QueueFull, EntryFull, MissTableFull, NotSent, BadCycle, QueueEmpty}
use Rattle.model.specs.declared.Stop.{Stop}
use Rattle.model.specs.declared.Stop.TheVariants as stop

-- "a status (INVALID 0, RESERVED 1, VALID 2, MODIFIED 3)"
abbrev pub status_number : Status → ℕ
status_number Invalid = 0
status_number Reserved = 1
status_number Valid = 2
status_number Modified = 3

-- the status of a number; sound tables have none above 3
abbrev pub status_of : ℕ → Status
status_of n = pick (eqb n 0) Invalid (pick (eqb n 1) Reserved (pick (eqb n 2) Valid Modified))

-- an unused queue place has 0
abbrev pub queue_kind_number : QueueKind → ℕ
queue_kind_number queue.Read = 1
queue_kind_number queue.WriteBack = 2

-- the kind of a number; sound tables have none above 2
abbrev pub queue_kind_of : ℕ → QueueKind
queue_kind_of n = pick (eqb n 1) queue.Read queue.WriteBack

-- "HIT 1, HIT_RESERVED 2, MISS 3, SECTOR_MISS 4"
abbrev pub answer_number : Answer → ℕ
answer_number Hit = 1
answer_number HitReserved = 2
answer_number Miss = 3
answer_number SectorMiss = 4

-- the table of "Refusal numbers"
abbrev pub refusal_number : Refusal → ℕ
refusal_number SettingOutOfRange = 1
refusal_number SliceLength = 2
refusal_number NotSound = 3
refusal_number BadAccess = 4
refusal_number SetBusy = 5
refusal_number SetHeld = 6
refusal_number QueueFull = 7
refusal_number EntryFull = 8
refusal_number MissTableFull = 9
refusal_number NotSent = 10
refusal_number BadCycle = 11
refusal_number QueueEmpty = 12

-- 0 where nothing stops; at a record 14, 15, 13, 1, 2, 16
abbrev pub stop_number : Option Stop → ℕ
stop_number None = 0
stop_number (Some stop.SettingOutOfRange) = 1
stop_number (Some stop.SliceLength) = 2
stop_number (Some stop.NotSound) = 3
stop_number (Some stop.OutOfPlace) = 13
stop_number (Some stop.UnknownKind) = 14
stop_number (Some stop.CutShort) = 15
stop_number (Some stop.NoRoom) = 16
