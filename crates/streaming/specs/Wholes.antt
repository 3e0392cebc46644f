-- A whole stream in parts: its run is the run of all the bytes that came, as one. Which bytes come, only the system can say.
use Rattle.std.specs.Prelude.{◌≡◌, ℕ, ◌+◌, ◌%◌, ◌^◌, ◌≤◌, true, false, List, ◌++◌, length, take}
use Rattle.model.specs.Lent.{Lent}
use Rattle.model.specs.Runner.{run}
use Rattle.running.specs.Lengths.{Final, Long, lengths_for}
use Rattle.streaming.specs.declared.work.Work.{Work}
use Rattle.streaming.specs.Works.{goes_next, stopped_next}
use Rattle.streaming.specs.Halts.{Claims, MayFollow}

-- from the bytes p, which w has read, and the slices L, to r and the slices M: others came behind p, and `events` were handed out
pub record Whole (L : Lent) (p : List ℕ) (w r : Work) (M : Lent) : Type 0 where
  pub bytes : List ℕ
  pub events : List ℕ
  pub counted : r.left + length bytes ≡ w.left
  pub written : r.written ≡ length events % 2 ^ 64
  -- it has stopped, or those bytes are all, by the system's word; or reading or writing failed
  pub over : goes_next r.next ≡ false
  pub claims : Claims r.next r.stop r.have
  pub final : stopped_next r.next ≡ true → Final r.stop
  -- stopped, the run of those bytes is this, also with anything behind them where the stop is not the end's
  pub is : stopped_next r.next ≡ true → (b : List ℕ) (room : ℕ) → MayFollow r.stop b → length events + 65536 ≤ room
      → run room ((p ++ bytes) ++ b) L ≡ record { stop = r.stop; consumed = r.consumed; events = events; tables = M }
  -- failed, its events begin with these
  pub front : (b : List ℕ) (room : ℕ) → length events + 65536 ≤ room → take (length events) (run room ((p ++ bytes) ++ b) L).events ≡ events

-- on slices as long as the stream's own settings ask
pub record WholeRun (p : List ℕ) (w r : Work) : Type 0 where
  pub lent : Lent
  pub long : Long lent (lengths_for p)
  pub left : Lent
  pub whole : Whole lent p w r left
