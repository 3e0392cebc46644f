-- "What an accepted access does", the order of its refusals, then send, fill and tick.
use Rattle.std.specs.Prelude.{ℕ, ◌+◌, ◌-◌, Bool, true, false, not, ◌&&◌, ◌||◌, List, [], ◌∷◌, ◌++◌, map, length, get_or, set, ltb, leb, eqb}
use Rattle.std.specs.Int.Bits.{bit_or}
use Rattle.words.specs.Words.{pick, any, keep, one}
use Rattle.model.specs.Range.{is_tree}
use Rattle.model.specs.Tree.{levels, touched_tree}
use Rattle.model.specs.Address.{address_of, is_read, block_of, sector_index, set_index, line_number, well_formed}
use Rattle.model.specs.Tables.{Line, Entry, reading, Tables, with_lines, with_misses, with_queue, with_now, with_trees, Outcome, refused, done, is_invalid, holds, entry_for, empty, with_dirty_count, dirty, fresh}
use Rattle.model.specs.Sound.{all_ones, last_cycle}
use Rattle.model.specs.Probe.{Spot, Place, no, at, Rules, rule_of, met_under}
use Rattle.model.specs.declared.Settings.{Settings}
use Rattle.model.specs.declared.Status.TheVariants.{Reserved, Valid, Modified}
use Rattle.model.specs.declared.Sector.{Sector}
use Rattle.model.specs.declared.QueueKind.{QueueKind}
use Rattle.model.specs.declared.QueueKind.TheVariants as queue
use Rattle.model.specs.declared.Queued.{Queued}
use Rattle.model.specs.declared.Answer.{Answer}
use Rattle.model.specs.declared.Answer.TheVariants.{Hit, HitReserved, Miss, SectorMiss}
use Rattle.model.specs.declared.Refusal.TheVariants.{BadAccess, QueueFull, EntryFull, MissTableFull, NotSent, BadCycle, QueueEmpty}
use Rattle.model.specs.declared.Access.{Access}
use Rattle.model.specs.declared.Access.TheVariants.{Read, Write}
use Rattle.model.specs.declared.Event.{Event}
use Rattle.model.specs.declared.Event.TheVariants.{Answered, ReadQueued, WriteBackQueued, Released, ReadSent, WriteBackSent, Filled, Ticked}

abbrev pub is_hit : Answer → Bool
is_hit Hit = true
is_hit HitReserved = false
is_hit Miss = false
is_hit SectorMiss = false

abbrev pub is_merge : Answer → Bool
is_merge Hit = false
is_merge HitReserved = true
is_merge Miss = false
is_merge SectorMiss = false

-- MISS or SECTOR_MISS
abbrev pub is_miss : Answer → Bool
is_miss a = not (is_hit a) && not (is_merge a)

-- ---- the sector

-- a read that misses: "the sector becomes RESERVED and readable (its mask stays)"; a write: "the mask is joined to the sector's";
-- HIT_RESERVED "stays RESERVED. Otherwise it becomes MODIFIED; readable if its mask is all ones, or it was readable and not INVALID before"
abbrev pub on_sector : Access → Answer → Sector → Sector
on_sector (Read a m k) n s = pick (is_miss n) record { status = Reserved; mask = s.mask; readable = true } s
on_sector (Write a m k) n s =
    pick (is_merge n)
    record { status = s.status; mask = bit_or s.mask m; readable = s.readable }
    record {
      status = Modified;
      mask = bit_or s.mask m;
      readable = eqb (bit_or s.mask m) all_ones || (s.readable && not (is_invalid s.status));
    }

-- a line whose sector i is changed, at cycle c, taken at cycle k
abbrev pub update : ℕ → (Sector → Sector) → ℕ → ℕ → Line → Line
update i f c k l = record { tag = l.tag; cycle = c; taken = k; sectors = set l.sectors i (f (get_or l.sectors i empty)) }

-- "the cycle at which it was last taken by a MISS" (L1)
abbrev pub takes_line : Answer → Bool
takes_line Hit = false
takes_line HitReserved = false
takes_line Miss = true
takes_line SectorMiss = false

abbrev pub taken_by : Answer → ℕ → ℕ → ℕ
taken_by a now k = pick (takes_line a) now k

-- ---- the dirty count (L3)

-- line l becomes m: one line fewer if l was dirty, one more if m is
abbrev pub recounted : Line → Line → ℕ → ℕ
recounted l m d = d + one (dirty m) - one (dirty l)

-- ---- the trees (L9)

-- "After every accepted access each node on the path to its way points to the half not taken"
abbrev pub turned_for : Settings → ℕ → ℕ → List ℕ → List ℕ
turned_for S a w ts = pick (is_tree S) (set ts (set_index S a) (touched_tree (get_or ts (set_index S a) 0) (levels S.ways) w)) ts

-- ---- the miss table

-- "the ticket joins the entry"
abbrev pub join : ℕ → ℕ → Entry → Entry
join a k e = pick (entry_for a e) record { address = e.address; sent = e.sent; tickets = e.tickets ++ (k ∷ []) } e

-- HIT_RESERVED joins; a miss: "a new unsent entry takes the ticket"
abbrev pub on_misses : Access → Answer → List Entry → List Entry
on_misses (Read a m k) n es =
    pick (is_merge n) (map (join a k) es)
    (pick (is_miss n) (es ++ (record { address = a; sent = false; tickets = k ∷ [] } ∷ [])) es)
on_misses (Write a m k) n es = es

-- ---- the queue

-- "a read is queued"
abbrev pub fetches : Access → Answer → List Queued
fetches (Read a m k) n = pick (is_miss n) (reading a ∷ []) []
fetches (Write a m k) n = []

-- "a read is queued, then the write-back if any"
abbrev pub queues : Access → Spot → List Queued
queues x p = fetches x p.answer ++ p.backs

-- the events of an entry, by its kind: queued, and sent
abbrev pub queued_as : QueueKind → ℕ → List ℕ → Event
queued_as queue.Read a ms = ReadQueued a
queued_as queue.WriteBack b ms = WriteBackQueued b (get_or ms 0 0) (get_or ms 1 0) (get_or ms 2 0) (get_or ms 3 0)

abbrev pub queued_event : Queued → Event
queued_event x = queued_as x.kind x.address x.masks

abbrev pub sent_as : QueueKind → ℕ → List ℕ → Event
sent_as queue.Read a ms = ReadSent a
sent_as queue.WriteBack b ms = WriteBackSent b (get_or ms 0 0) (get_or ms 1 0) (get_or ms 2 0) (get_or ms 3 0)

abbrev pub sent_event : Queued → Event
sent_event x = sent_as x.kind x.address x.masks

-- L2: "an access needs exactly as many free places as it will queue"
abbrev pub places_needed : Access → Spot → ℕ
places_needed x p = length (queues x p)

-- ---- the access

-- the line that an accepted access leaves at its spot
abbrev pub line_after : Access → Spot → ℕ → Line
line_after x p now = update (sector_index (address_of x)) (on_sector x p.answer) now (taken_by p.answer now p.line.taken) p.line

-- the line at its number, the dirty count, the set's tree, the miss table and the queue move, and nothing else
abbrev pub after_access : Settings → Access → Spot → Tables → Tables
after_access S x p t =
    with_queue (t.queue ++ queues x p)
    (with_misses (on_misses x p.answer t.misses)
    (with_trees (turned_for S (address_of x) p.way t.trees)
    (with_dirty_count (recounted (get_or t.lines (line_number S (address_of x) p.way) fresh) (line_after x p t.now) t.dirty_count)
    (with_lines (set t.lines (line_number S (address_of x) p.way) (line_after x p t.now)) t))))

unfoldable pub accept : Settings → Access → Spot → Tables → Outcome Tables
accept S x p t = done (Answered p.answer (line_number S (address_of x) p.way) ∷ map queued_event (queues x p)) (after_access S x p t)

-- its entry has W tickets
abbrev pub entry_full : Settings → ℕ → Entry → Bool
entry_full S a e = entry_for a e && leb S.readers (length e.tickets)

-- 5 or 6; 7 "too few free queue places"; 8 "HIT_RESERVED read, entry has W tickets"; 9 "read needs a new entry, M in use"
unfoldable pub proceed : Settings → Access → Tables → Place → Outcome Tables
proceed S x t (no n) = refused n
proceed S x t (at p) =
    pick (ltb S.queue (length t.queue + places_needed x p)) (refused QueueFull)
    (pick (is_read x && is_merge p.answer && any (entry_full S (address_of x)) t.misses) (refused EntryFull)
    (pick (is_read x && is_miss p.answer && leb S.misses (length t.misses)) (refused MissTableFull)
    (accept S x p t)))

-- 4 "access address not a multiple of 32 or not below 2^48; write mask 0; read mask not 0", then what the access meets under the rules R
abbrev pub access_under : Rules → Settings → Access → Tables → Outcome Tables
access_under R S x t =
    pick (well_formed x) (proceed S x t (met_under R S x t)) (refused BadAccess)

unfoldable pub access : Settings → Access → Tables → Outcome Tables
access S x t = access_under (rule_of S) S x t

-- ---- send: "takes the queue head; a read marks its entry sent"

abbrev pub mark : ℕ → Entry → Entry
mark a e = pick (entry_for a e) record { address = e.address; sent = true; tickets = e.tickets } e

abbrev pub marked_for : QueueKind → ℕ → List Entry → List Entry
marked_for queue.Read a es = map (mark a) es
marked_for queue.WriteBack b es = es

abbrev pub marked : Queued → List Entry → List Entry
marked x es = marked_for x.kind x.address es

abbrev pub after_send : Queued → List Queued → Tables → Tables
after_send e q t = with_queue q (with_misses (marked e t.misses) t)

abbrev pub send_from : List Queued → Tables → Outcome Tables
send_from [] t = refused QueueEmpty
send_from (e ∷ q) t = done (sent_event e ∷ []) (after_send e q t)

unfoldable pub send : Tables → Outcome Tables
send t = send_from t.queue t

-- ---- fill "of a sent sector address: MODIFIED if its mask isn't 0, else VALID; readable"

abbrev pub arrived : Sector → Sector
arrived s = record { status = pick (eqb s.mask 0) Valid Modified; mask = s.mask; readable = true }

-- "Cycles on lines stay."
unfoldable pub fill_line : ℕ → Line → Line
fill_line a l = pick (holds (block_of a) l) (update (sector_index a) arrived l.cycle l.taken l) l

abbrev pub tickets_of : ℕ → List Entry → List ℕ
tickets_of a [] = []
tickets_of a (e ∷ es) = pick (entry_for a e) e.tickets (tickets_of a es)

abbrev pub others : ℕ → Entry → Bool
others a e = not (entry_for a e)

-- a line with no MODIFIED sector that gets one
abbrev pub soiled : ℕ → Line → Bool
soiled a l = not (dirty l) && dirty (fill_line a l)

-- "the entry goes, later entries close up"
abbrev pub after_fill : ℕ → Tables → Tables
after_fill a t =
    with_misses (keep (others a) t.misses)
    (with_dirty_count (t.dirty_count + one (any (soiled a) t.lines)) (with_lines (map (fill_line a) t.lines) t))

abbrev pub sent_for : ℕ → Entry → Bool
sent_for a e = entry_for a e && e.sent

-- "its tickets are released in order"; 10 "fill: no sent entry with that address"
unfoldable pub fill : ℕ → Tables → Outcome Tables
fill a t =
    pick (any (sent_for a) t.misses)
    (done (Filled a ∷ map Released (tickets_of a t.misses)) (after_fill a t))
    (refused NotSent)

-- ---- "Tick sets the current cycle."; 11 "tick to an earlier cycle or above 4,294,967,294"

unfoldable pub tick : ℕ → Tables → Outcome Tables
tick c t =
    pick (ltb c t.now || ltb last_cycle c) (refused BadCycle)
    (done (Ticked ∷ []) (with_now c t))
