-- "Fourteen accesses to prove": one table, a row a case, made on lent tables through every check from fresh ones on. Then more, made in
-- the same way: one for each rule of document 01 that those leave open, and some under each replacement rule.
use Rattle.std.specs.Prelude.{ℕ, List, [], ◌∷◌, ◌++◌, get_or}
use Rattle.model.specs.Tables.{start, Outcome, refused, done, after, events_of, dirty_lines}
use Rattle.model.specs.Lent.{Lent, tables_of, encode}
use Rattle.model.specs.History.{Call, offer, sending, filling, ticking, make}
use Rattle.model.specs.declared.Settings.{Settings}
use Rattle.model.specs.declared.Access.TheVariants.{Read, Write}
use Rattle.model.specs.declared.Answer.TheVariants.{Hit, HitReserved, Miss, SectorMiss}
use Rattle.model.specs.declared.Refusal.{Refusal}
use Rattle.model.specs.declared.Refusal.TheVariants.{SettingOutOfRange, BadAccess, SetBusy, SetHeld, QueueFull, EntryFull, MissTableFull, NotSent, BadCycle, QueueEmpty}
use Rattle.model.specs.declared.Event.{Event}
use Rattle.model.specs.declared.Event.TheVariants.{Answered, Refused, ReadQueued, WriteBackQueued}

-- the outcome of the last of the calls, made from the first on
abbrev pub make_all : Settings → List Call → Call → Lent → Outcome Lent
make_all S [] c L = make S c L
make_all S (d ∷ ds) c L = make_all S ds c (after L (make S d L))

-- a refusal, or the events and the number of dirty lines then
pub data Seen : Type 0 where
  no : Refusal → Seen
  yes : List Event → ℕ → Seen

abbrev pub case_seen : Settings → Outcome Lent → Seen
case_seen S (refused n) = no n
case_seen S (done es L) = yes es (dirty_lines (tables_of S L))

pub record Case : Type 0 where
  pub settings : Settings
  pub before : List Call
  pub last : Call
  pub sees : Seen

-- "1 set, 2 ways, P 50, M 2, W 2, Q 4"
abbrev pub base : Settings
base = record { sets = 1; ways = 2; dirty = 50; misses = 2; readers = 2; queue = 4; rule = 0 }

-- "Two sets, one way, P 60"
abbrev pub narrow : ℕ → Settings
narrow p = record { sets = 2; ways = 1; dirty = p; misses = 2; readers = 2; queue = 4; rule = 0 }

-- "Q 2"
abbrev pub short : Settings
short = record { sets = 1; ways = 2; dirty = 50; misses = 2; readers = 2; queue = 2; rule = 0 }

abbrev pub r : ℕ → Call
r a = offer (Read a 0 7)

abbrev pub w : ℕ → ℕ → Call
w a m = offer (Write a m 0)

abbrev pub case : Settings → List Call → Call → Seen → Case
case S b l s = record { settings = S; before = b; last = l; sees = s }

-- 1 to 14, in order; 13 and 14 have two rows each
abbrev pub cases : List Case
cases =
    case base [] (r 0) (yes (Answered Miss 1 ∷ ReadQueued 0 ∷ []) 0)
    ∷ case base (r 0 ∷ []) (r 0) (yes (Answered HitReserved 1 ∷ []) 0)
    ∷ case base (r 0 ∷ []) (r 32) (yes (Answered SectorMiss 1 ∷ ReadQueued 32 ∷ []) 0)
    ∷ case base (r 0 ∷ r 32 ∷ []) (r 64) (no MissTableFull)
    ∷ case base (r 0 ∷ r 0 ∷ []) (r 0) (no EntryFull)
    ∷ case base [] (w 0 0xFF) (yes (Answered Miss 1 ∷ []) 1)
    ∷ case base (w 0 0xFF ∷ []) (r 0) (yes (Answered SectorMiss 1 ∷ ReadQueued 0 ∷ []) 0)
    ∷ case base (w 0 0xFF ∷ r 0 ∷ sending ∷ filling 0 ∷ []) (r 0) (yes (Answered Hit 1 ∷ []) 1)
    ∷ case base (w 0 0xFF ∷ w 0 0xFFFFFF00 ∷ []) (r 0) (yes (Answered Hit 1 ∷ []) 1)
    ∷ case base (ticking 1 ∷ w 0 0xFF ∷ ticking 2 ∷ w 128 0xFF ∷ ticking 3 ∷ []) (w 256 0xFF)
    (yes (Answered Miss 1 ∷ WriteBackQueued 0 0xFF 0 0 0 ∷ []) 2)
    ∷ case base (w 0 0xFF ∷ w 128 0xFF ∷ []) (w 256 0xFF) (yes (Answered Miss 0 ∷ WriteBackQueued 128 0xFF 0 0 0 ∷ []) 2)
    ∷ case base (r 0 ∷ r 128 ∷ []) (r 256) (no SetBusy)
    ∷ case (narrow 60) (w 0 0xFF ∷ []) (w 256 0xFF) (no SetHeld)
    ∷ case (narrow 50) (w 0 0xFF ∷ []) (w 256 0xFF) (yes (Answered Miss 0 ∷ WriteBackQueued 0 0xFF 0 0 0 ∷ []) 1)
    ∷ case short [] (r 0) (yes (Answered Miss 1 ∷ ReadQueued 0 ∷ []) 0)
    ∷ case short (r 0 ∷ []) (r 0) (yes (Answered HitReserved 1 ∷ []) 0)
    ∷ []

-- what each row's last call comes to
abbrev pub seen_of : Case → Seen
seen_of c = case_seen c.settings (make_all c.settings c.before c.last (encode c.settings (start c.settings)))

-- 1: dirty lines of another set count. 2: a read is queued before the write-back. 3: a fill leaves the line's cycle, so the line stays
-- the oldest. 4, 5: a write in flight leaves its sector RESERVED, and its bytes are dirty once it has arrived. 6: with a
-- full queue a merged read is refused by 8 alone. 7: 7 comes before 9. 8 to 11: refusal 4, one row for each reason. 12: refusal 10.
-- 13: refusal 11. 14: refusal 12. 15, 16: with a full queue a write that throws out a clean line, or none, is accepted. 17: one that
-- throws out a dirty line is not
abbrev pub more_cases : List Case
more_cases =
    case (narrow 60) (w 128 0xFF ∷ w 0 0xFF ∷ []) (w 256 0xFF) (yes (Answered Miss 0 ∷ WriteBackQueued 0 0xFF 0 0 0 ∷ []) 2)
    ∷ case base (ticking 1 ∷ w 0 0xFF ∷ ticking 2 ∷ w 128 0xFF ∷ []) (r 256)
    (yes (Answered Miss 1 ∷ ReadQueued 256 ∷ WriteBackQueued 0 0xFF 0 0 0 ∷ []) 1)
    ∷ case base (ticking 1 ∷ r 0 ∷ ticking 2 ∷ r 128 ∷ ticking 3 ∷ sending ∷ filling 0 ∷ sending ∷ filling 128 ∷ []) (r 256)
    (yes (Answered Miss 1 ∷ ReadQueued 256 ∷ []) 0)
    ∷ case base (r 0 ∷ []) (w 0 0xFF) (yes (Answered HitReserved 1 ∷ []) 0)
    ∷ case base (r 0 ∷ w 0 0xFF ∷ sending ∷ filling 0 ∷ []) (r 0) (yes (Answered Hit 1 ∷ []) 1)
    ∷ case short (r 0 ∷ r 32 ∷ r 0 ∷ []) (r 0) (no EntryFull)
    ∷ case short (r 0 ∷ r 32 ∷ []) (r 64) (no QueueFull)
    ∷ case base [] (r 1) (no BadAccess)
    ∷ case base [] (r 0x1000000000000) (no BadAccess)
    ∷ case base [] (offer (Read 0 1 7)) (no BadAccess)
    ∷ case base [] (w 0 0) (no BadAccess)
    ∷ case base (r 0 ∷ []) (filling 0) (no NotSent)
    ∷ case base (ticking 2 ∷ []) (ticking 1) (no BadCycle)
    ∷ case base [] sending (no QueueEmpty)
    ∷ case short (r 0 ∷ r 32 ∷ []) (w 128 0xFF) (yes (Answered Miss 0 ∷ []) 1)
    ∷ case short (r 0 ∷ r 32 ∷ []) (w 64 0xFF) (yes (Answered SectorMiss 1 ∷ []) 1)
    ∷ case short (w 128 0xFF ∷ r 0 ∷ r 32 ∷ []) (w 256 0xFF) (no QueueFull)
    ∷ []

-- ---- the replacement rules

-- 1 set of 2 ways, under a rule
abbrev pub under_rule : ℕ → Settings
under_rule n = record { sets = 1; ways = 2; dirty = 50; misses = 2; readers = 2; queue = 4; rule = n }

abbrev pub three_ways : ℕ → Settings
three_ways n = record { sets = 1; ways = 3; dirty = 50; misses = 2; readers = 2; queue = 4; rule = n }

-- way 1 is taken at cycle 1, way 0 at 2; at 9 way 1 is used by this access; 10 comes
abbrev pub used_late : Call → List Call
used_late c = ticking 1 ∷ w 0 0xFF ∷ ticking 2 ∷ w 128 0xFF ∷ ticking 9 ∷ c ∷ ticking 10 ∷ []

-- 1: least recently used, a MISS takes way 0. 2: first in first out, way 1. 3: also where it was used by a SECTOR_MISS. 4: the lowest way
-- of two taken at the same cycle. 5: another rule byte. 6: a tree over three ways
abbrev pub rule_cases : List Case
rule_cases =
    case (under_rule 0) (used_late (w 0 0xFF)) (w 256 0xFF) (yes (Answered Miss 0 ∷ WriteBackQueued 128 0xFF 0 0 0 ∷ []) 2)
    ∷ case (under_rule 1) (used_late (w 0 0xFF)) (w 256 0xFF) (yes (Answered Miss 1 ∷ WriteBackQueued 0 0xFF 0 0 0 ∷ []) 2)
    ∷ case (under_rule 1) (used_late (w 32 0xFF)) (w 256 0xFF) (yes (Answered Miss 1 ∷ WriteBackQueued 0 0xFF 0xFF 0 0 ∷ []) 2)
    ∷ case (under_rule 1) (w 0 0xFF ∷ w 128 0xFF ∷ ticking 9 ∷ w 128 0xFF ∷ []) (w 256 0xFF)
    (yes (Answered Miss 0 ∷ WriteBackQueued 128 0xFF 0 0 0 ∷ []) 2)
    ∷ case (under_rule 3) [] (r 0) (no SettingOutOfRange)
    ∷ case (three_ways 2) [] (r 0) (no SettingOutOfRange)
    ∷ []

-- ---- trees (L9): four ways under rule 2

abbrev pub four_ways : Settings
four_ways = record { sets = 1; ways = 4; dirty = 50; misses = 4; readers = 1; queue = 4; rule = 2 }

-- the events of the last call, and the tree that it leaves
pub record TreeLeft : Type 0 where
  pub events : List Event
  pub tree : ℕ

abbrev pub last_turned : Call → Lent → TreeLeft
last_turned c L = record {
  events = events_of (make four_ways c L);
  tree = get_or (tables_of four_ways (after L (make four_ways c L))).trees 0 0;
}

abbrev pub turned_from : List Call → Call → Lent → TreeLeft
turned_from [] c L = last_turned c L
turned_from (d ∷ ds) c L = turned_from ds c (after L (make four_ways d L))

abbrev pub turned_by : List Call → Call → TreeLeft
turned_by ds c = turned_from ds c (encode four_ways (start four_ways))

-- a read that comes back
abbrev pub fetched : ℕ → List Call
fetched a = r a ∷ sending ∷ filling a ∷ []

abbrev pub all_four : List Call
all_four = fetched 0 ++ (fetched 128 ++ (fetched 256 ++ fetched 384))

-- the lines 3 and 2 wait, 1 and 0 are there
abbrev pub lower_back : List Call
lower_back = r 0 ∷ r 128 ∷ r 256 ∷ r 384 ∷ sending ∷ sending ∷ sending ∷ sending ∷ filling 256 ∷ filling 384 ∷ []

-- 1: wholly invalid ways go first, the highest, and the path to them is turned: the fourth leaves tree 7. 2: the next MISS takes line 3 and
-- leaves tree 2. 3: with ways 2 and 3 RESERVED it takes line 1. 4: a refused access turns nothing
abbrev pub tree_cases : List (List Call × Call)
tree_cases =
    (fetched 0 ++ (fetched 128 ++ fetched 256), r 384)
    ∷ (all_four, r 512)
    ∷ (lower_back, r 512)
    ∷ (all_four, r 1)
    ∷ []

abbrev pub trees_left : List TreeLeft
trees_left =
    record { events = Answered Miss 0 ∷ ReadQueued 384 ∷ []; tree = 7 }
    ∷ record { events = Answered Miss 3 ∷ ReadQueued 512 ∷ []; tree = 2 }
    ∷ record { events = Answered Miss 1 ∷ ReadQueued 512 ∷ []; tree = 5 }
    ∷ record { events = Refused BadAccess ∷ []; tree = 7 }
    ∷ []
