-- What the turns of a trace promise: the slices hold sound tables again, and each turn goes past a record or is the last, reads bytes
-- or is the last.
use Rattle.std.specs.Prelude.{◌≡◌, ℕ, ◌-◌, ◌≤◌, false, Option, Some, None}
use Rattle.model.specs.Lent.{Lent}
use Rattle.model.specs.Inner.{SoundSlices}
use Rattle.model.specs.declared.Settings.{Settings}
use Rattle.model.specs.declared.Stop.{Stop}
use Rattle.model.specs.declared.Stop.TheVariants as stop
use Rattle.input.specs.Buffers.{turns_left}
use Rattle.streaming.specs.declared.work.Next.{Next}
use Rattle.streaming.specs.declared.work.Next.TheVariants as next
use Rattle.streaming.specs.declared.work.Work.{Work}
use Rattle.streaming.specs.Works.{goes_next}
use Rattle.streaming.specs.Halts.{Claims}
use Rattle.trace.specs.declared.turns.Turn.{Turn}

-- one record of a buffer of this size
pub record Traced (S : Settings) (size : ℕ) (t r : Turn) (M : Lent) : Type 0 where
  pub held : SoundSlices S M
  pub inside : r.at ≤ size
  pub further : turns_left r.more (size - r.at) ≤ size - t.at

-- what comes behind the records of a buffer: more bytes where one is cut short or none is left; the other stops come whatever follows
abbrev pub after_records : Option Stop → Next
after_records None = next.Read
after_records (Some stop.CutShort) = next.Read
after_records (Some stop.NoRoom) = next.Stopped
after_records (Some stop.SettingOutOfRange) = next.Stopped
after_records (Some stop.SliceLength) = next.Stopped
after_records (Some stop.NotSound) = next.Stopped
after_records (Some stop.OutOfPlace) = next.Stopped
after_records (Some stop.UnknownKind) = next.Stopped

-- so many bytes wait and so many may still come; what is claimed of the input holds
pub record Standing (have left : ℕ) (r : Work) : Type 0 where
  pub waits : r.have ≡ have
  pub comes : r.left ≡ left
  pub claims : Claims r.next r.stop r.have

-- one read into a buffer of this size, where so many bytes might come
pub record Reads (size left : ℕ) (r : Work) : Type 0 where
  pub inside : r.have ≤ size
  pub fewer : turns_left (goes_next r.next) r.left ≤ left
  pub claims : Claims r.next r.stop r.have

-- the records that wait, then a read
pub record RecordsThenRead (S : Settings) (size : ℕ) (w r : Work) (M : Lent) : Type 0 where
  pub held : SoundSlices S M
  pub read : Reads size w.left r

-- nothing more is done: the run has stopped, or the input has ended, by the system's word; or reading or printing failed
pub record Over (r : Work) : Type 0 where
  pub over : goes_next r.next ≡ false
  pub claims : Claims r.next r.stop r.have
