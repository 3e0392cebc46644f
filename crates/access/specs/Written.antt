-- What the writes of an accepted access leave of the slices, raw: a line, the miss table, the queue.
use Rattle.std.specs.Prelude.{◌≡◌, ℕ, ◌+◌, ◌*◌, ◌≤◌, ◌<◌, ◌-◌, Bool, true, false, ◌&&◌, List, [], ◌∷◌, ◌++◌, length, get_or, set, replicate, None}
use Rattle.words.specs.Words.{pick, one}
use Rattle.model.specs.Numbers.{queue_kind_number}
use Rattle.model.specs.Range.{is_tree, lines_of, power_to256}
use Rattle.model.specs.Tree.{levels, touched_tree, power_to16}
use Rattle.model.specs.Address.{address_of, block_of, is_read, sector_index, set_index}
use Rattle.model.specs.Tables.{empty, reading}
use Rattle.model.specs.Lent.{Lent, lent, sector_at, sectors_at}
use Rattle.words.specs.Regions.{put}
use Rattle.model.specs.Steps.{is_miss, takes_line, on_sector}
use Rattle.model.specs.Calls.{in_two}
use Rattle.model.specs.declared.Settings.{Settings}
use Rattle.model.specs.declared.Access.{Access}
use Rattle.model.specs.declared.Answer.{Answer}
use Rattle.model.specs.declared.Sector.{Sector}
use Rattle.model.specs.declared.Queued.{Queued}
use Rattle.model.specs.declared.Reply.{Reply}
use Rattle.model.specs.declared.Event.TheVariants.{Answered}
use Rattle.layout.specs.declared.Layout.{Layout}
use Rattle.layout.specs.declared.geometry.Geometry.{Geometry}
use Rattle.layout.specs.Layout.{words_most}
use Rattle.layout.specs.Sectors.{SectorRoom, Plain, statuses, masks, readables, some_modified}
use Rattle.probe.specs.declared.Meeting.{Meeting}
use Rattle.probe.specs.declared.Meeting.TheVariants as meeting
use Rattle.probe.specs.declared.Decision.{Decision}
use Rattle.probe.specs.Decided.{backs_of}
use Rattle.tables.specs.Raw.{dirty_at}
use Rattle.tables.specs.Changed.{CountFits, Changed}
use Rattle.access.specs.declared.asked.Offer.{Offer}
use Rattle.access.specs.declared.plan.MissPlan.{MissPlan}
use Rattle.access.specs.declared.plan.MissPlan.TheVariants.{Stays, Joins, Starts}

-- the sectors that the access finds in its line: those that stand there, or of a line taken over four empty ones
abbrev pub sectors_for : Meeting → List Sector → List Sector
sectors_for meeting.Met four = four
sectors_for meeting.Taken four = replicate 4 empty

-- the sectors that it leaves
abbrev pub sectors_after : Access → Decision → List Sector → List Sector
sectors_after x d four = set four (sector_index (address_of x)) (on_sector x d.answer (get_or four (sector_index (address_of x)) empty))

-- the dirty count, when a line that was dirty or not becomes so or not
abbrev pub count_written : Layout → Bool → Bool → Lent → Lent
count_written at was is L = lent L.longs (put L.words at.dirty ((get_or L.words at.dirty 0 + one is - one was) ∷ [])) L.marks

-- a line with its tag, the current cycle and its four sectors
abbrev pub line_written : Layout → Lent → ℕ → ℕ → List Sector → Lent
line_written at L l block four =
    lent
    (put L.longs l (block ∷ []))
    (put (put L.words (1 + l) (get_or L.words 0 0 ∷ [])) (at.masks + 4 * l) (masks four))
    (put (put L.marks (4 * l) (statuses four)) (at.readables + 4 * l) (readables four))

-- the dirty count and the line
abbrev pub line_left : Layout → Lent → ℕ → ℕ → List Sector → Lent
line_left at L l block four = line_written at (count_written at (dirty_at L.marks l) (some_modified four) L) l block four

-- those of an offer, as it leaves them
abbrev pub line_offered : Settings → Layout → Offer → Lent → Lent
line_offered S at o L =
    line_left at L o.decision.line (block_of (address_of o.access))
    (sectors_after o.access o.decision (sectors_for o.decision.meeting (sectors_at S L.words L.marks o.decision.line)))

-- ---- a line that is there, of which the access's own sector changes

-- there is room for its sectors, its bytes are those of sectors, and the dirty count fits
abbrev pub LineMayChange : Geometry → ℕ → List ℕ → List ℕ → Type 0
LineMayChange g l words marks = SectorRoom g words marks × (l < lines_of g.settings) × Plain g.at l marks × (g.at.dirty < length words) × CountFits g.at l words marks

-- its own sector is as the access leaves it, and the line counts as dirty if one of the sectors that it then has is MODIFIED
abbrev pub SectorLeft : Settings → Layout → Access → Answer → ℕ → List ℕ → List ℕ → List ℕ → List ℕ → Type 0
SectorLeft S at x a l words marks words' marks' =
    let k : ℕ = sector_index (address_of x) in
    let own : Sector = on_sector x a (sector_at S words marks (4 * l + k)) in
    Changed S at l k own (some_modified (set (sectors_at S words marks l) k own)) words marks words' marks'

-- ---- beside the line

-- the cycle at which it was taken: where the answer is MISS, the current one
abbrev pub taken_written : Layout → Answer → ℕ → List ℕ → List ℕ
taken_written at a l words = pick (takes_line a) (put words (at.taken + l) (get_or words 0 0 ∷ [])) words

abbrev pub line_taken : Layout → Answer → ℕ → Lent → Lent
line_taken at a l L = lent L.longs (taken_written at a l L.words) L.marks

-- the tree of set i after an access to way w, under rule 2
abbrev pub trees_written : Settings → Layout → ℕ → ℕ → List ℕ → List ℕ
trees_written S at i w words =
    pick (is_tree S) (put words (at.trees + i) (touched_tree (get_or words (at.trees + i) 0) (levels S.ways) w ∷ [])) words

abbrev pub set_turned : Settings → Layout → ℕ → ℕ → Lent → Lent
set_turned S at i w L = lent L.longs (trees_written S at i w L.words) L.marks

-- so many words have a place for the tree of the access's set
pub record TreeRoom (S : Settings) (at : Layout) (x : Access) (n : ℕ) : Type 0 where
  pub inside : at.trees + set_index S (address_of x) < n
  pub small : n ≤ words_most
  pub sets : 1 ≤ S.sets
  pub power : power_to256 S.sets ≡ true
  pub tree : is_tree S ≡ true → power_to16 S.ways ≡ true

-- the miss table by the plan: a ticket that joins, or a new entry
abbrev pub misses_written : Layout → ℕ → MissPlan → ℕ → ℕ → Lent → Lent
misses_written at readers Stays a k L = L
misses_written at readers (Joins e n) a k L =
    lent L.longs (put L.words (at.tickets + readers * e + n) (k ∷ [])) (put L.marks (at.counts + e) ((n + 1) ∷ []))
misses_written at readers (Starts e) a k L =
    lent (put L.longs (at.misses + e) (a ∷ [])) (put L.words (at.tickets + readers * e) (k ∷ [])) (put L.marks (at.counts + e) (1 ∷ []))

-- an entry at queue place n
abbrev pub entry_written : Layout → ℕ → Queued → Lent → Lent
entry_written at n x L =
    lent
    (put L.longs (at.queue + n) (x.address ∷ []))
    (put L.words (at.backs + 4 * n) x.masks)
    (put L.marks (at.kinds + n) (queue_kind_number x.kind ∷ []))

-- entries from queue place n on
abbrev pub queue_written : Layout → ℕ → List Queued → Lent → Lent
queue_written at n [] L = L
queue_written at n (x ∷ xs) L = queue_written at (n + 1) xs (entry_written at n x L)

-- ---- room for these writes

abbrev pub MissRoom : Layout → ℕ → MissPlan → List ℕ → List ℕ → List ℕ → Type 0
MissRoom at readers Stays longs words marks = Unit
MissRoom at readers (Joins e n) longs words marks = (n < 8) × (at.tickets + readers * e + n < length words) × (at.counts + e < length marks)
MissRoom at readers (Starts e) longs words marks = (at.misses + e < length longs) × (at.tickets + readers * e < length words) × (at.counts + e < length marks)

-- for the first n queue places
abbrev pub QueueRoom : Layout → ℕ → List ℕ → List ℕ → List ℕ → Type 0
QueueRoom at n longs words marks = (at.queue + n ≤ length longs) × (at.backs + 4 * n ≤ length words) × (at.kinds + n ≤ length marks)

-- what an accepted access queues: the read, then the write-back
abbrev pub queues_of : Access → Decision → List Queued
queues_of x d = pick (is_read x && is_miss d.answer) (reading (address_of x) ∷ []) [] ++ backs_of d

-- a read, which queues no write-back where it doesn't miss
pub record Alone (x : Access) (d : Decision) : Type 0 where
  pub reads : is_read x ≡ true
  pub alone : is_miss d.answer ≡ false → d.back ≡ None

-- what it tells, with these entries in two places
abbrev pub telling_queued : Decision → List Queued → ℕ → Reply
telling_queued d entries n = record { first = Answered d.answer d.line; queued = entries; queues = n; count = 0; tickets = replicate 8 0 }

abbrev pub telling_of : Access → Decision → Reply
telling_of x d = telling_queued d (in_two (queues_of x d)) (length (queues_of x d))
