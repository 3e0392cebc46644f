-- How the tables stand in the three lent slices, whose regions are in Layout: the numbers by place, the tables read off them, and the
-- slices that tables give.
use Rattle.std.specs.Prelude.{ℕ, ◌+◌, ◌*◌, Bool, true, false, not, ◌&&◌, List, [], ◌∷◌, map, length, get_or, eqb}
use Rattle.words.specs.Words.{table, count_below, packed, joined}
use Rattle.model.specs.Numbers.{status_number, status_of, queue_kind_number, queue_kind_of}
use Rattle.model.specs.Range.{lines_of}
use Rattle.model.specs.Layout.{longs_length, words_length, marks_length, longs_from, words_from, marks_from, miss_region, queue_region, mask_region, ticket_region, queue_mask_region, readable_region, sent_region, ticket_count_region, kind_region, dirty_count_region, taken_region, tree_region}
use Rattle.model.specs.Tables.{Line, Entry, Tables}
use Rattle.model.specs.declared.Settings.{Settings}
use Rattle.model.specs.declared.Sector.{Sector}
use Rattle.model.specs.declared.Queued.{Queued}

pub record Lent : Type 0 where
  pub longs : List ℕ
  pub words : List ℕ
  pub marks : List ℕ

abbrev pub lent : List ℕ → List ℕ → List ℕ → Lent
lent longs words marks = record { longs = longs; words = words; marks = marks }

-- refusal 2 does not apply
abbrev pub lengths_fit : Settings → Lent → Bool
lengths_fit S L =
    eqb (length L.longs) (longs_length S) && eqb (length L.words) (words_length S) && eqb (length L.marks) (marks_length S)

-- ---- the numbers by place; the first regions of a slice begin where they do whatever the settings are

-- of line l
abbrev pub tag_at : List ℕ → ℕ → ℕ
tag_at longs l = get_or longs l 0

abbrev pub cycle_at : List ℕ → ℕ → ℕ
cycle_at words l = get_or words (1 + l) 0

abbrev pub taken_at : Settings → List ℕ → ℕ → ℕ
taken_at S words l = get_or words (words_from S taken_region + l) 0

-- of sector i of all lines, four to a line
abbrev pub status_at : List ℕ → ℕ → ℕ
status_at marks i = get_or marks i 0

abbrev pub mask_at : Settings → List ℕ → ℕ → ℕ
mask_at S words i = get_or words (words_from S mask_region + i) 0

abbrev pub readable_at : Settings → List ℕ → ℕ → ℕ
readable_at S marks i = get_or marks (marks_from S readable_region + i) 0

-- of miss entry e
abbrev pub miss_at : Settings → List ℕ → ℕ → ℕ
miss_at S longs e = get_or longs (longs_from S miss_region + e) 0

abbrev pub sent_at : Settings → List ℕ → ℕ → ℕ
sent_at S marks e = get_or marks (marks_from S sent_region + e) 0

abbrev pub ticket_count_at : Settings → List ℕ → ℕ → ℕ
ticket_count_at S marks e = get_or marks (marks_from S ticket_count_region + e) 0

-- ticket place i of all entries, `readers` to an entry
abbrev pub ticket_at : Settings → List ℕ → ℕ → ℕ
ticket_at S words i = get_or words (words_from S ticket_region + i) 0

-- of queue place p: its address, its kind (0 unused, 1 a read, 2 a write-back), and mask i of all places, four to a place
abbrev pub queued_at : Settings → List ℕ → ℕ → ℕ
queued_at S longs p = get_or longs (longs_from S queue_region + p) 0

abbrev pub queue_kind_at : Settings → List ℕ → ℕ → ℕ
queue_kind_at S marks p = get_or marks (marks_from S kind_region + p) 0

abbrev pub queue_mask_at : Settings → List ℕ → ℕ → ℕ
queue_mask_at S words i = get_or words (words_from S queue_mask_region + i) 0

abbrev pub now_at : List ℕ → ℕ
now_at words = get_or words 0 0

abbrev pub dirty_count_at : Settings → List ℕ → ℕ
dirty_count_at S words = get_or words (words_from S dirty_count_region) 0

-- of set i
abbrev pub tree_at : Settings → List ℕ → ℕ → ℕ
tree_at S words i = get_or words (words_from S tree_region + i) 0

-- ---- the tables read off the slices

module _ (S : Settings) (words marks : List ℕ) where
  abbrev pub sector_at : ℕ → Sector
  sector_at i = record { status = status_of (status_at marks i); mask = mask_at S words i; readable = eqb (readable_at S marks i) 1 }

  -- the four sectors of line l
  abbrev pub sectors_at : ℕ → List Sector
  sectors_at l = sector_at (4 * l) ∷ sector_at (4 * l + 1) ∷ sector_at (4 * l + 2) ∷ sector_at (4 * l + 3) ∷ []

abbrev pub line_at : Settings → List ℕ → List ℕ → List ℕ → ℕ → Line
line_at S longs words marks l = record { tag = tag_at longs l; cycle = cycle_at words l; taken = taken_at S words l; sectors = sectors_at S words marks l }

abbrev pub entry_at : Settings → Lent → ℕ → Entry
entry_at S L e = record {
  address = miss_at S L.longs e;
  sent = eqb (sent_at S L.marks e) 1;
  tickets = table (ticket_count_at S L.marks e) (λ j. ticket_at S L.words (S.readers * e + j));
}

abbrev pub queue_at : Settings → Lent → ℕ → Queued
queue_at S L p = record {
  kind = queue_kind_of (queue_kind_at S L.marks p);
  address = queued_at S L.longs p;
  masks = table 4 (λ k. queue_mask_at S L.words (4 * p + k));
}

-- how many of the first places are in use; of sound tables' places those in use are the first
abbrev pub in_use : ℕ → (ℕ → ℕ) → ℕ
in_use n f = count_below n (λ i. not (eqb (f i) 0))

abbrev pub lines_in : Settings → List ℕ → List ℕ → List ℕ → List Line
lines_in S longs words marks = table (lines_of S) (line_at S longs words marks)

unfoldable pub tables_of : Settings → Lent → Tables
tables_of S L = record {
  lines = lines_in S L.longs L.words L.marks;
  misses = table (in_use S.misses (ticket_count_at S L.marks)) (entry_at S L);
  queue = table (in_use S.queue (queue_kind_at S L.marks)) (queue_at S L);
  now = now_at L.words;
  dirty_count = dirty_count_at S L.words;
  trees = table S.sets (tree_at S L.words);
}

-- ---- the slices that tables give: a block of places for each field, unused places zero

abbrev pub bit : Bool → ℕ
bit true = 1
bit false = 0

abbrev pub tag_of : Line → List ℕ
tag_of l = l.tag ∷ []

abbrev pub cycle_of : Line → List ℕ
cycle_of l = l.cycle ∷ []

abbrev pub taken_of : Line → List ℕ
taken_of l = l.taken ∷ []

abbrev pub masks_of : Line → List ℕ
masks_of l = map (λ s. s.mask) l.sectors

abbrev pub statuses_of : Line → List ℕ
statuses_of l = map (λ s. status_number s.status) l.sectors

abbrev pub readables_of : Line → List ℕ
readables_of l = map (λ s. bit s.readable) l.sectors

abbrev pub miss_of : Entry → List ℕ
miss_of e = e.address ∷ []

abbrev pub sent_of : Entry → List ℕ
sent_of e = bit e.sent ∷ []

abbrev pub ticket_count_of : Entry → List ℕ
ticket_count_of e = length e.tickets ∷ []

abbrev pub tickets_in : Entry → List ℕ
tickets_in e = e.tickets

abbrev pub queued_of : Queued → List ℕ
queued_of x = x.address ∷ []

abbrev pub kind_of : Queued → List ℕ
kind_of x = queue_kind_number x.kind ∷ []

abbrev pub queue_masks_of : Queued → List ℕ
queue_masks_of x = x.masks

abbrev pub tree_of : ℕ → List ℕ
tree_of t = t ∷ []

abbrev pub long_blocks : Settings → Tables → List (List ℕ)
long_blocks S t =
    packed tag_of 1 (lines_of S) t.lines
    ∷ packed miss_of 1 S.misses t.misses
    ∷ packed queued_of 1 S.queue t.queue
    ∷ []

abbrev pub word_blocks : Settings → Tables → List (List ℕ)
word_blocks S t =
    (t.now ∷ [])
    ∷ packed cycle_of 1 (lines_of S) t.lines
    ∷ packed masks_of 4 (lines_of S) t.lines
    ∷ packed tickets_in S.readers S.misses t.misses
    ∷ packed queue_masks_of 4 S.queue t.queue
    ∷ (t.dirty_count ∷ [])
    ∷ packed taken_of 1 (lines_of S) t.lines
    ∷ packed tree_of 1 S.sets t.trees
    ∷ []

abbrev pub mark_blocks : Settings → Tables → List (List ℕ)
mark_blocks S t =
    packed statuses_of 4 (lines_of S) t.lines
    ∷ packed readables_of 4 (lines_of S) t.lines
    ∷ packed sent_of 1 S.misses t.misses
    ∷ packed ticket_count_of 1 S.misses t.misses
    ∷ packed kind_of 1 S.queue t.queue
    ∷ []

unfoldable pub encode : Settings → Tables → Lent
encode S t = record { longs = joined (long_blocks S t); words = joined (word_blocks S t); marks = joined (mark_blocks S t) }
