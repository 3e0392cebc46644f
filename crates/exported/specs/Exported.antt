-- What a call from C leaves: its return value, the event buffer and the slices.
use Rattle.std.specs.Prelude.{◌≡◌, ℕ, Bool, ◌&&◌, List, [], ◌∷◌, ◌++◌, length, drop, leb, eqb, Result, Ok, Err}
use Rattle.model.specs.declared.Refusal.{Refusal}
use Rattle.words.specs.Words.{pick}
use Rattle.model.specs.Numbers.{refusal_number}
use Rattle.model.specs.Range.{in_range}
use Rattle.model.specs.Tables.{Outcome, after, events_of}
use Rattle.model.specs.Lent.{Lent}
use Rattle.model.specs.Records.{log_bytes}
use Rattle.model.specs.Inner.{SoundSlices}
use Rattle.model.specs.declared.Settings.{Settings}
use Rattle.model.specs.declared.Access.{Access}
use Rattle.model.specs.declared.Access.TheVariants.{Read, Write}
use Rattle.model.specs.Runner.{event_room}
use Rattle.rounds.specs.Waiting.{Waiting, Wait, wait_room}

-- ---- results and arguments

-- 0 where nothing is refused
abbrev pub verdict_number : Result (Unit {0}) Refusal → ℕ
verdict_number (Ok tt) = 0
verdict_number (Err n) = refusal_number n

-- a length that the settings fix; 0 for settings out of range
abbrev pub length_for : Settings → ℕ → ℕ
length_for S n = pick (in_range S) n 0

-- 0 is a read, any other number a write
abbrev pub access_for : ℕ → ℕ → ℕ → ℕ → Access
access_for w address mask ticket = pick (eqb w 0) (Read address mask ticket) (Write address mask ticket)

-- a call with the outcome o on L and the event buffer e: its records stand at the buffer's start, and the slices are those that it left
pub record Called (o : Outcome Lent) (L : Lent) (e : List ℕ) (r : ℕ) (f : List ℕ) (M : Lent) : Type 0 where
  pub written : r ≡ pick (leb event_room (length e)) (length (log_bytes (events_of o))) 0
  pub events : f ≡ pick (leb event_room (length e)) (log_bytes (events_of o) ++ drop (length (log_bytes (events_of o))) e) e
  pub left : M ≡ pick (leb event_room (length e)) (after L o) L

-- the same of a step without the check, on slices that are the encoding of sound tables: it leaves such slices again
pub record Stepped (S : Settings) (o : Outcome Lent) (L : Lent) (e : List ℕ) (r : ℕ) (f : List ℕ) (M : Lent) : Type 0 where
  pub called : Called o L e r f M
  pub held : SoundSlices S M

-- ---- wait: the accepting round goes to a slice of one number

abbrev pub round_number : Waiting → ℕ
round_number (Ok a) = a.round
round_number (Err e) = 0

-- with another length, or less event room than any wait can need, nothing is called
abbrev pub may_wait : List ℕ → List ℕ → Bool
may_wait e k = eqb (length k) 1 && leb wait_room (length e)

pub record WaitCalled (w : Wait Lent) (L : Lent) (e k : List ℕ) (r : ℕ) (f j : List ℕ) (M : Lent) : Type 0 where
  pub written : r ≡ pick (may_wait e k) (length (log_bytes w.events)) 0
  pub events : f ≡ pick (may_wait e k) (log_bytes w.events ++ drop (length (log_bytes w.events)) e) e
  pub round : j ≡ pick (may_wait e k) (round_number w.waiting ∷ []) k
  pub left : M ≡ pick (may_wait e k) w.left L
