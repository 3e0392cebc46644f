-- "The modelled cache": the tables as a reader of document 01 sees them. Lines of four sectors, miss entries, the queue, the current
-- cycle; what a call comes to. How they stand in the lent slices is in Lent.
use Rattle.std.specs.Prelude.{ℕ, Bool, true, false, not, ◌&&◌, List, [], ◌∷◌, replicate, eqb}
use Rattle.words.specs.Words.{all, any, count}
use Rattle.model.specs.Range.{lines_of}
use Rattle.model.specs.declared.Settings.{Settings}
use Rattle.model.specs.declared.Status.{Status}
use Rattle.model.specs.declared.Status.TheVariants.{Invalid, Reserved, Valid, Modified}
use Rattle.model.specs.declared.Sector.{Sector}
use Rattle.model.specs.declared.QueueKind.{QueueKind}
use Rattle.model.specs.declared.QueueKind.TheVariants as queue
use Rattle.model.specs.declared.Queued.{Queued}
use Rattle.model.specs.declared.Refusal.{Refusal}
use Rattle.model.specs.declared.Event.{Event}
use Rattle.model.specs.declared.Event.TheVariants as ev

-- "A line has a tag, a last-access cycle and four sectors"; "the cycle at which it was last taken by a MISS" (L1)
pub record Line : Type 0 where
  pub tag : ℕ
  pub cycle : ℕ
  pub taken : ℕ
  pub sectors : List Sector

-- "A miss entry has a sector address, a sent mark and 1 to W tickets in order of arrival"
pub record Entry : Type 0 where
  pub address : ℕ
  pub sent : Bool
  pub tickets : List ℕ

-- "The queue holds reads (sector address) and write-backs (block address, four masks)": a read's masks are unused, and zero
abbrev pub reading : ℕ → Queued
reading a = record { kind = queue.Read; address = a; masks = replicate 4 0 }

abbrev pub writing : ℕ → List ℕ → Queued
writing b ms = record { kind = queue.WriteBack; address = b; masks = ms }

-- "entries stand in order of creation, the oldest first"; the queue "first in first out"; how many lines have a MODIFIED sector (L3);
-- the tree of each set (L9)
pub record Tables : Type 0 where
  pub lines : List Line
  pub misses : List Entry
  pub queue : List Queued
  pub now : ℕ
  pub dirty_count : ℕ
  pub trees : List ℕ

-- ---- tables with one part another

abbrev pub with_lines : List Line → Tables → Tables
with_lines ls t = record { lines = ls; misses = t.misses; queue = t.queue; now = t.now; dirty_count = t.dirty_count; trees = t.trees }

abbrev pub with_misses : List Entry → Tables → Tables
with_misses es t = record { lines = t.lines; misses = es; queue = t.queue; now = t.now; dirty_count = t.dirty_count; trees = t.trees }

abbrev pub with_queue : List Queued → Tables → Tables
with_queue q t = record { lines = t.lines; misses = t.misses; queue = q; now = t.now; dirty_count = t.dirty_count; trees = t.trees }

abbrev pub with_now : ℕ → Tables → Tables
with_now c t = record { lines = t.lines; misses = t.misses; queue = t.queue; now = c; dirty_count = t.dirty_count; trees = t.trees }

abbrev pub with_dirty_count : ℕ → Tables → Tables
with_dirty_count d t = record { lines = t.lines; misses = t.misses; queue = t.queue; now = t.now; dirty_count = d; trees = t.trees }

abbrev pub with_trees : List ℕ → Tables → Tables
with_trees ts t = record { lines = t.lines; misses = t.misses; queue = t.queue; now = t.now; dirty_count = t.dirty_count; trees = ts }

-- ---- sectors and lines

abbrev pub is_invalid : Status → Bool
is_invalid Invalid = true
is_invalid Reserved = false
is_invalid Valid = false
is_invalid Modified = false

abbrev pub is_reserved : Status → Bool
is_reserved Invalid = false
is_reserved Reserved = true
is_reserved Valid = false
is_reserved Modified = false

abbrev pub is_modified : Status → Bool
is_modified Invalid = false
is_modified Reserved = false
is_modified Valid = false
is_modified Modified = true

-- "wholly invalid if all four sectors are INVALID"
abbrev pub wholly_invalid : Line → Bool
wholly_invalid l = all (λ s. is_invalid s.status) l.sectors

-- some sector is RESERVED
abbrev pub has_reserved : Line → Bool
has_reserved l = any (λ s. is_reserved s.status) l.sectors

-- some sector is MODIFIED
abbrev pub dirty : Line → Bool
dirty l = any (λ s. is_modified s.status) l.sectors

-- "dirty counts the lines of the whole cache with a MODIFIED sector"
abbrev pub dirty_lines : Tables → ℕ
dirty_lines t = count dirty t.lines

-- has the tag, and is not wholly invalid
abbrev pub holds : ℕ → Line → Bool
holds b l = not (wholly_invalid l) && eqb l.tag b

-- an entry for the address
abbrev pub entry_for : ℕ → Entry → Bool
entry_for a e = eqb e.address a

-- what stands past the end of a miss table
abbrev pub no_entry : Entry
no_entry = record { address = 0; sent = false; tickets = [] }

-- ---- queued entries

abbrev pub is_fetch : QueueKind → Bool
is_fetch queue.Read = true
is_fetch queue.WriteBack = false

-- what stands past the end of a queue
abbrev pub idle : Queued
idle = reading 0

-- ---- fresh tables: "all invalid and readable, all empty, cycle 0"; "Fresh trees are all 0" (L9)

abbrev pub empty : Sector
empty = record { status = Invalid; mask = 0; readable = true }

-- "all sectors INVALID, readable, with mask 0", under a tag
abbrev pub emptied : ℕ → Line
emptied b = record { tag = b; cycle = 0; taken = 0; sectors = replicate 4 empty }

abbrev pub fresh : Line
fresh = emptied 0

abbrev pub start : Settings → Tables
start S = record { lines = replicate (lines_of S) fresh; misses = []; queue = []; now = 0; dirty_count = 0; trees = replicate S.sets 0 }

-- ---- what a call comes to, on tables of any kind: a refusal, or its events and the tables that it leaves

pub data Outcome (T : Type 0) : Type 0 where
  refused : Refusal → Outcome T
  done : List Event → T → Outcome T

module _ {T : Type 0} where
  -- "Every refusal returns its number and leaves all tables unchanged."
  abbrev pub after : T → Outcome T → T
  after t (refused n) = t
  after t (done es u) = u

  -- the event records of a result; a refusal becomes 0x11
  abbrev pub events_of : Outcome T → List Event
  events_of (refused n) = ev.Refused n ∷ []
  events_of (done es u) = es

  -- "Accepted means answered without a refusal number."
  abbrev pub accepted : Outcome T → Bool
  accepted (refused n) = false
  accepted (done es u) = true
