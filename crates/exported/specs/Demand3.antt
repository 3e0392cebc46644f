-- What the rounds and the struck rounds leave to a caller from C. The rounds run and the bytes written go to a slice of two numbers; with another
-- length nothing is called, and 2 is returned.
use Rattle.std.specs.Prelude.{Result, Ok, Err, ◌≡◌, ℕ, List, [], ◌∷◌, length, eqb}
use Rattle.words.specs.Words.{pick}
use Rattle.model.specs.Numbers.{refusal_number}
use Rattle.model.specs.Lent.{Lent}
use Rattle.model.specs.Records.{parsed, events_in}
use Rattle.rounds.specs.Demand3.{RoundsShown, written_in}
use Rattle.rounds.specs.declared.Went.{Went}
use Rattle.rounds.specs.declared.NotRun.{NotRun}
use Rattle.rounds.specs.declared.NotRun.TheVariants.{Refused, NoRoom}

-- 1 to 4, and 16 for too few flags or bytes
abbrev pub not_run_number : NotRun → ℕ
not_run_number (Refused n) = refusal_number n
not_run_number NoRoom = 16

-- 0 for rounds that were run
abbrev pub went_number : Result Went NotRun → ℕ
went_number (Ok g) = 0
went_number (Err e) = not_run_number e

abbrev pub rounds_run : Result Went NotRun → ℕ
rounds_run (Ok g) = g.rounds
rounds_run (Err e) = 0

abbrev pub bytes_written : Result Went NotRun → ℕ
bytes_written (Ok g) = g.written
bytes_written (Err e) = 0

-- a call that shows o, on L with the event buffer e and the numbers k; the bytes written read back as what o told
pub record ShownCalled (o : RoundsShown) (L : Lent) (e k : List ℕ) (r : ℕ) (f j : List ℕ) (M : Lent) : Type 0 where
  pub says : r ≡ pick (eqb (length k) 2) (went_number o.went) 2
  pub counts : j ≡ pick (eqb (length k) 2) (rounds_run o.went ∷ bytes_written o.went ∷ []) k
  pub events : f ≡ pick (eqb (length k) 2) o.room e
  pub reads : events_in (pick (eqb (length k) 2) (written_in o.went f) []) ≡ pick (eqb (length k) 2) o.told (parsed [])
  pub left : M ≡ pick (eqb (length k) 2) o.left L

-- the flags hl after it: gl, those of the rounds, or fl, as they were
pub record FlagsCalled (gl fl k hl : List ℕ) : Type 0 where
  pub flags : hl ≡ pick (eqb (length k) 2) gl fl
