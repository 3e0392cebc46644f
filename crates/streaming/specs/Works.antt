-- Where a run stands between two parts of its stream.
use Rattle.std.specs.Prelude.{ℕ, ◌+◌, ◌*◌, ◌%◌, ◌^◌, ◌<◌, Bool, true, false, Result, Ok, Err, Option, Some, None}
use Rattle.model.specs.declared.Stop.{Stop}
use Rattle.model.specs.declared.Stop.TheVariants as stop
use Rattle.running.specs.Lengths.{Final}
use Rattle.input.specs.declared.Ended.{Ended}
use Rattle.input.specs.declared.NoMore.{NoMore}
use Rattle.input.specs.declared.NoMore.TheVariants as no
use Rattle.input.specs.declared.Waiting.{Waiting}
use Rattle.streaming.specs.declared.work.Next.{Next}
use Rattle.streaming.specs.declared.work.Next.TheVariants as next
use Rattle.streaming.specs.declared.work.Work.{Work}

-- what stops a part, and what comes next: 15 wants more bytes, 16 wants the events written out, the others stop the run
abbrev pub next_after_stop : Option Stop → Next
next_after_stop None = next.Read
next_after_stop (Some stop.CutShort) = next.Read
next_after_stop (Some stop.NoRoom) = next.Run
next_after_stop (Some stop.SettingOutOfRange) = next.Stopped
next_after_stop (Some stop.SliceLength) = next.Stopped
next_after_stop (Some stop.NotSound) = next.Stopped
next_after_stop (Some stop.OutOfPlace) = next.Stopped
next_after_stop (Some stop.UnknownKind) = next.Stopped

-- what ends a run whose first record stops it: that record, once it is there; the end that was told; else nothing is known
abbrev pub over_next : Next → Next
over_next next.Read = next.Failed
over_next next.Run = next.Stopped
over_next next.Stopped = next.Stopped
over_next (next.Ended e) = next.Ended e
over_next next.Failed = next.Failed

abbrev pub reads_next : Next → Bool
reads_next next.Read = true
reads_next next.Run = false
reads_next next.Stopped = false
reads_next (next.Ended e) = false
reads_next next.Failed = false

abbrev pub goes_next : Next → Bool
goes_next next.Read = true
goes_next next.Run = true
goes_next next.Stopped = false
goes_next (next.Ended e) = false
goes_next next.Failed = false

-- its stop may be told
abbrev pub stopped_next : Next → Bool
stopped_next next.Read = false
stopped_next next.Run = false
stopped_next next.Stopped = true
stopped_next (next.Ended e) = true
stopped_next next.Failed = false

abbrev pub failed_next : Next → Bool
failed_next next.Read = false
failed_next next.Run = false
failed_next next.Stopped = false
failed_next (next.Ended e) = false
failed_next next.Failed = true

abbrev pub start_of : ℕ → ℕ → Next → Work
start_of have left n = record { have = have; left = left; consumed = 0; written = 0; stop = None; next = n }

abbrev pub begun_of : ℕ → ℕ → ℕ → Work
begun_of size have left = record { have = have; left = left; consumed = size; written = 0; stop = None; next = next.Run }

abbrev pub read_of : Work → ℕ → ℕ → Work
read_of w have left = record { have = have; left = left; consumed = w.consumed; written = w.written; stop = w.stop; next = next.Run }

abbrev pub stopped_of : Work → Option Stop → Work
stopped_of w s = record { have = w.have; left = w.left; consumed = w.consumed; written = w.written; stop = s; next = over_next w.next }

abbrev pub ended_of : Work → Ended → Work
ended_of w e = record { have = w.have; left = w.left; consumed = w.consumed; written = w.written; stop = w.stop; next = next.Ended e }

abbrev pub failed_of : Work → Work
failed_of w = record { have = w.have; left = w.left; consumed = w.consumed; written = w.written; stop = w.stop; next = next.Failed }

-- what reading came to
abbrev pub read_by : Work → Result Waiting NoMore → Work
read_by w (Ok r) = read_of w r.have r.left
read_by w (Err (no.End e)) = ended_of w e
read_by w (Err no.Full) = failed_of w
read_by w (Err (no.Failed why)) = failed_of w

abbrev pub behind_of : Work → Option Stop → ℕ → ℕ → ℕ → Work
behind_of w s consumed written have = record {
  have = have;
  left = w.left;
  consumed = w.consumed + consumed;
  written = (w.written + written) % 2 ^ 64;
  stop = s;
  next = next_after_stop s;
}

-- stops 2 and 16 end no run: so where it has stopped, or would at the end of its input
abbrev pub Sure : Next → Option Stop → Type 0
Sure next.Read s = Final s
Sure next.Run s = Unit
Sure next.Stopped s = Final s
Sure (next.Ended e) s = Final s
Sure next.Failed s = Unit

-- what waits while more bytes are wanted is less than the smallest buffer
abbrev pub Few : Next → ℕ → Type 0
Few next.Read have = have < 64
Few next.Run have = Unit
Few next.Stopped have = Unit
Few (next.Ended e) have = Unit
Few next.Failed have = Unit

-- a bound on the turns that are left: each reads a byte that may still come, or consumes one that waits, or runs what waits before one that
-- reads, or is the last
abbrev pub turns_of : Next → ℕ → ℕ → ℕ
turns_of next.Read have left = 3 * left + have + 1
turns_of next.Run have left = 3 * left + have + 2
turns_of next.Stopped have left = 0
turns_of (next.Ended e) have left = 0
turns_of next.Failed have left = 0
