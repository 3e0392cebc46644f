-- A part of a stream: the bytes that wait at the front of a buffer, run as far as they go; a turn; the turns to the end.
use Rattle.std.specs.Prelude.{◌≡◌, ℕ, ◌+◌, ◌-◌, ◌%◌, ◌^◌, ◌<◌, ◌≤◌, false, ◌⊎◌, List, ◌++◌, length, take, drop, Result as Outcome, Ok, Err}
use Rattle.model.specs.Tables.{Tables}
use Rattle.model.specs.Lent.{Lent}
use Rattle.model.specs.Inner.{Encodes, SoundSlices}
use Rattle.model.specs.Runner.{RunResult, bytes_then, run_from}
use Rattle.model.specs.declared.Settings.{Settings}
use Rattle.running.specs.Begin.{Opening, beginning, begun_tables}
use Rattle.input.specs.Buffers.{Grown}
use Rattle.input.specs.declared.NoMore.{NoMore}
use Rattle.input.specs.declared.Waiting.{Waiting}
use Rattle.streaming.specs.declared.work.Next.TheVariants as next
use Rattle.streaming.specs.declared.work.Work.{Work}
use Rattle.streaming.specs.declared.scope.Scope.{Scope}
use Rattle.streaming.specs.Works.{Sure, Few, next_after_stop, goes_next, stopped_of, begun_of, turns_of, read_by}
use Rattle.streaming.specs.Scopes.{part_end}
use Rattle.streaming.specs.Halts.{Claims, Before}

-- before a turn: the slices hold sound tables, the bytes that wait are in the buffer and counted, the last stop may be told and says what it
-- says of them
pub record Ready (S : Settings) (k : Scope) (L : Lent) (buf : List ℕ) (w : Work) : Type 0 where
  pub held : SoundSlices S L
  pub inside : w.have ≤ length buf
  pub roomy : 64 ≤ length buf
  pub counted : w.consumed + w.have + w.left < 2 ^ 64
  pub small : w.written < 2 ^ 64
  pub sure : Sure w.next w.stop
  pub few : Few w.next w.have
  pub before : (t : Tables) → Encodes S L t → Before S k w.next w.stop (take w.have buf) t

-- o is what the part that is run of the bytes p comes to; the rest of them waits at the front of the buffer, and the totals grow by
-- what it says: the bytes written are those that were handed out, whose place is the front of f
pub record PartLeaves (S : Settings) (o : RunResult Tables) (p e : List ℕ) (w r : Work) (buf f : List ℕ) (M : Lent) : Type 0 where
  pub tables : Encodes S M o.tables
  pub events : f ≡ o.events ++ drop (length o.events) e
  pub rest : take r.have buf ≡ drop o.consumed p
  pub have : r.have + o.consumed ≡ length p
  pub stop : r.stop ≡ o.stop
  pub left : r.left ≡ w.left
  pub consumed : r.consumed ≡ w.consumed + o.consumed
  pub written : r.written ≡ (w.written + length o.events) % 2 ^ 64
  pub next : (r.next ≡ next_after_stop o.stop) ⊎ (r.next ≡ next.Failed)

-- from the tables that L holds
pub record Ran (S : Settings) (k : Scope) (p e : List ℕ) (L : Lent) (w r : Work) (buf f : List ℕ) (M : Lent) : Type 0 where
  pub on : (t : Tables) → Encodes S L t → PartLeaves S (run_from S 0 (length e) (take (part_end k p) p) t) p e w r buf f M
  pub inside : r.have ≤ length buf

-- reading once came to r, by what the system said
pub record ReadsOnce (l : List ℕ) (w r : Work) (buf : List ℕ) : Type 0 where
  pub said : Outcome Waiting NoMore
  pub grown : Grown l w.have w.left said buf
  pub is : r ≡ read_by w said

-- ---- parts put together. Which bytes come, only the system can say: what is stated is of those that came, whatever they are

-- the run of the bytes s from the tables t, with anything behind them: it goes over `eaten` of them, writes `events`, and stands at the
-- tables u before the bytes q; in any room of `size` bytes more than it writes
abbrev pub GoesOver : Settings → ℕ → Tables → List ℕ → ℕ → List ℕ → Tables → List ℕ → Type 0
GoesOver S size t s eaten events u q =
    (b : List ℕ) (room : ℕ) → length events + size ≤ room
    → run_from S 0 room (s ++ b) t ≡ bytes_then eaten events (run_from S 0 (room - length events) (q ++ b) u)

-- from w to r, with the bytes s before them and q after: the totals grow by what that run says, and M holds its tables
pub record Went (S : Settings) (size : ℕ) (t : Tables) (s : List ℕ) (w r : Work) (q : List ℕ) (M : Lent) : Type 0 where
  pub eaten : ℕ
  pub events : List ℕ
  pub tables : Tables
  pub are : Encodes S M tables
  pub consumed : r.consumed ≡ w.consumed + eaten
  pub written : r.written ≡ (w.written + length events) % 2 ^ 64
  pub goes : GoesOver S size t s eaten events tables q

-- the bytes p waited, and others came
pub record Came (S : Settings) (size : ℕ) (L : Lent) (p : List ℕ) (w r : Work) (q : List ℕ) (M : Lent) : Type 0 where
  pub bytes : List ℕ
  pub counted : r.left + length bytes ≡ w.left
  pub on : (t : Tables) → Encodes S L t → Went S size t (p ++ bytes) w r q M

-- one turn: the next can come, and fewer are left
pub record PartTurn (S : Settings) (k : Scope) (size : ℕ) (L : Lent) (p : List ℕ) (w r : Work) (buf : List ℕ) (M : Lent) : Type 0 where
  pub ready : Ready S k M buf r
  pub claims : Claims r.next r.stop r.have
  pub fewer : turns_of r.next r.have r.left < turns_of w.next w.have w.left
  pub came : Came S size L p w r (take r.have buf) M

-- all turns: the run has stopped, or the system said that the input has ended, or reading or writing failed
pub record Rested (S : Settings) (k : Scope) (size : ℕ) (L : Lent) (p : List ℕ) (w r : Work) (buf : List ℕ) (M : Lent) : Type 0 where
  pub ready : Ready S k M buf r
  pub over : goes_next r.next ≡ false
  pub claims : Claims r.next r.stop r.have
  pub came : Came S size L p w r (take r.have buf) M

-- ---- the first record

-- settings at which the run goes on, and from where; or a run that has stopped
abbrev pub Started : Type 0
Started = Outcome (Settings × Work) Work

abbrev pub begun_by : Started → Opening
begun_by (Ok (S, w)) = Ok (S, w.consumed)
begun_by (Err w) = Err w.stop

-- what is left to do: the bytes behind the settings, from w on; or nothing
abbrev pub After : Lent → List ℕ → Work → List ℕ → Scope → Started → Type 0
After M p w buf k (Ok (S, r)) = (r ≡ begun_of r.consumed r.have w.left) × (take r.have buf ≡ drop r.consumed p) × Ready S k M buf r
After M p w buf k (Err r) = (r ≡ stopped_of w r.stop) × Sure r.next r.stop

pub record Starts (L : Lent) (p : List ℕ) (w : Work) (r : Started) (M : Lent) (buf : List ℕ) : Type 0 where
  pub says : begun_by r ≡ beginning L p
  pub tables : M ≡ begun_tables L (beginning L p)
  pub after : (k : Scope) → After M p w buf k r
