-- What sound tables are, as facts: a record beside each test of Sound, and what is known of a line, an entry and a queued read of them.
use Rattle.words.proofs.General.{ℕ, ◌+◌, ◌*◌, ◌/◌, ◌%◌, ◌^◌, ◌≤◌, ◌<◌, arith, ◌≡◌, refl, sym, ap, ◌∙◌, Bool, true, false, not, ◌&&◌, ◌||◌, false≢true, List, length, get_or, leb, ltb}
use Rattle.words.proofs.General.{eqb, eqb-true, eq-eqb, leb-true, pick, all, any, count, every, within, and_1, and_2, and_i, not_yes, same_is, In, all_in, count_one, count_index}
use Rattle.words.proofs.General.{in_index, in_get_or, every_at}
use Rattle.model.proofs.Terms.{lines_of, is_tree, block_of, sector_index, set_index, good_sector, good_block, Line, Entry, Tables, Outcome, refused, done, is_reserved}
use Rattle.model.proofs.Terms.{wholly_invalid, holds, entry_for, is_fetch, empty, fresh, dirty_lines, no_entry, all_ones, last_cycle, mask_ok, sector_ok, line_ok, alone, agrees}
use Rattle.model.proofs.Terms.{reserved_ok, reading_of, unsent_for, entry_ok, kind_ok, queued_ok, sound, tree_fine}
use Rattle.model.specs.declared.Settings.{Settings}
use Rattle.model.specs.declared.QueueKind.{QueueKind}
use Rattle.model.specs.declared.QueueKind.TheVariants as queue
use Rattle.model.specs.declared.Queued.{Queued}
use Rattle.model.specs.declared.Status.{Status}
use Rattle.model.specs.declared.Status.TheVariants.{Invalid, Reserved, Valid, Modified}

-- ---- the records, and their tests both ways

pub record Sound (S : Settings) (t : Tables) : Type 0 where
  pub sized : eqb (length t.lines) (lines_of S) ≡ true
  pub time : leb t.now last_cycle ≡ true
  pub lined : every (lines_of S) (λ i. line_ok S t.now i (get_or t.lines i fresh)) ≡ true
  pub single : all (alone t.lines) t.lines ≡ true
  pub reserve : all (reserved_ok t.misses) t.lines ≡ true
  pub entered : all (entry_ok S t) t.misses ≡ true
  pub lining : all (queued_ok t.misses) t.queue ≡ true
  pub few : leb (length t.misses) S.misses ≡ true
  pub short : leb (length t.queue) S.queue ≡ true
  pub counted : eqb t.dirty_count (dirty_lines t) ≡ true
  pub treed : eqb (length t.trees) S.sets ≡ true
  pub turned : all (tree_fine (is_tree S) S.ways) t.trees ≡ true

pub parts : (S : Settings) (t : Tables) → sound S t ≡ true → Sound S t
unfolding sound
parts S t e = search (and_1, and_2) depth 13

pub sound_whole : (S : Settings) (t : Tables) → Sound S t → sound S t ≡ true
unfolding sound
sound_whole S t h = rw (h.sized, h.time, h.lined, h.single, h.reserve, h.entered, h.lining, h.few, h.short, h.counted, h.treed, h.turned)

pub record LineIs (S : Settings) (now i : ℕ) (l : Line) : Type 0 where
  pub four : eqb (length l.sectors) 4 ≡ true
  pub sectorly : all sector_ok l.sectors ≡ true
  pub past : leb l.cycle now ≡ true
  pub since : leb l.taken l.cycle ≡ true
  pub tagged : pick (wholly_invalid l) (eqb l.tag 0 && eqb l.cycle 0 && eqb l.taken 0) (good_block l.tag && eqb (set_index S l.tag) (i / S.ways)) ≡ true

pub line_whole : (S : Settings) (now i : ℕ) (l : Line) → LineIs S now i l → line_ok S now i l ≡ true
unfolding line_ok
line_whole S now i l h = rw (h.four, h.sectorly, h.past, h.since, h.tagged)

pub record EntryIs (S : Settings) (t : Tables) (e : Entry) : Type 0 where
  pub good : good_sector e.address ≡ true
  pub held : any (holds (block_of e.address)) t.lines ≡ true
  pub once : eqb (count (entry_for e.address) t.misses) 1 ≡ true
  pub readers : within 1 S.readers (length e.tickets) ≡ true
  pub queues : (e.sent || eqb (count (reading_of e.address) t.queue) 1) ≡ true

pub entry_parts : (S : Settings) (t : Tables) (e : Entry) → entry_ok S t e ≡ true → EntryIs S t e
unfolding entry_ok
entry_parts S t e h = search (and_1, and_2) depth 9

pub entry_whole : (S : Settings) (t : Tables) (e : Entry) → EntryIs S t e → entry_ok S t e ≡ true
unfolding entry_ok
entry_whole S t e h = rw (h.good, h.held, h.once, h.readers, h.queues)

-- the tables that an outcome leaves are sound, if it leaves any
abbrev pub LeavesSound : Settings → Outcome Tables → Type 0
LeavesSound S (refused n) = Unit {0}
LeavesSound S (done es u) = Sound S u

-- ---- where an address lies

pub sector_below : (a : ℕ) → sector_index a < 4
sector_below a = omega arith

pub address_is : (a : ℕ) → a % 32 ≡ 0 → block_of a + 32 * sector_index a ≡ a
address_is a h = omega arith

pub block_is : (a b k : ℕ) → b % 128 ≡ 0 → k < 4 → b + 32 * k ≡ a → b ≡ block_of a
block_is a b k h l e = omega arith

pub sector_is : (a b k : ℕ) → b % 128 ≡ 0 → k < 4 → b + 32 * k ≡ a → k ≡ sector_index a
sector_is a b k h l e = omega arith

pub sector_aligned : (a : ℕ) → good_sector a ≡ true → a % 32 ≡ 0
sector_aligned a h = eqb-true (a % 32) 0 (and_1 (eqb (a % 32) 0) (ltb a (2 ^ 48)) h)

pub set_of_block : (S : Settings) (a : ℕ) → set_index S (block_of a) ≡ set_index S a
set_of_block S a = let e : block_of a / 128 ≡ a / 128 = omega arith in ap (λ (c : ℕ). c % S.sets) e

-- ---- masks

pub mask_small : (c : Status) (m : ℕ) (r : Bool) → mask_ok c m r ≡ true → leb m all_ones ≡ true
mask_small Invalid m r h = rw (eqb-true m 0 (and_1 (eqb m 0) r h))
mask_small Reserved m r h = and_1 (leb m all_ones) r h
mask_small Valid m r h = rw (eqb-true m 0 (and_1 (eqb m 0) r h))
mask_small Modified m r h = search (and_1, and_2)

-- ---- a line that holds a block

module _ (b : ℕ) (l : Line) (e : holds b l ≡ true) where
  pub holds_used : wholly_invalid l ≡ false
  holds_used = not_yes (and_1 (not (wholly_invalid l)) (eqb l.tag b) e)

  pub holds_tag : l.tag ≡ b
  holds_tag = eqb-true l.tag b (and_2 (not (wholly_invalid l)) (eqb l.tag b) e)

-- ---- of sound tables: a line, an entry, what is queued

module _ (S : Settings) (t : Tables) (ok : Sound S t) where
  pub lines_are : length t.lines ≡ lines_of S
  lines_are = eqb-true (length t.lines) (lines_of S) ok.sized

  pub few_misses : length t.misses ≤ S.misses
  few_misses = leb-true (length t.misses) S.misses ok.few

  pub few_queued : length t.queue ≤ S.queue
  few_queued = leb-true (length t.queue) S.queue ok.short

  pub dirty_count_is : t.dirty_count ≡ dirty_lines t
  dirty_count_is = eqb-true t.dirty_count (dirty_lines t) ok.counted

  pub trees_are : length t.trees ≡ S.sets
  trees_are = eqb-true (length t.trees) S.sets ok.treed

  pub line_at : (i : ℕ) → i < length t.lines → LineIs S t.now i (get_or t.lines i fresh)
  unfolding line_ok
  line_at i h = let e = every_at (λ j. line_ok S t.now j (get_or t.lines j fresh)) (lines_of S) i ok.lined (rw lines_are at h) in search (and_1, and_2) depth 9

  line_facts : (l : Line) → In l t.lines → (i : ℕ) × LineIs S t.now i l
  line_facts l m = let (i, h, e) = in_index t.lines fresh l m in (i, rw e at (line_at i h))

  pub four_at : (l : Line) → In l t.lines → length l.sectors ≡ 4
  four_at l m = eqb-true (length l.sectors) 4 (line_facts l m).1.four

  -- taken no later than the current cycle
  pub since_at : (l : Line) → In l t.lines → l.taken ≤ t.now
  since_at l m = let (i, k) = line_facts l m in omega (arith, leb-true l.taken l.cycle k.since, leb-true l.cycle t.now k.past)

  pub sectors_at_lem : (l : Line) → In l t.lines → all sector_ok l.sectors ≡ true
  sectors_at_lem l m = (line_facts l m).1.sectorly

  -- the tag of a line that isn't wholly invalid
  pub live_tag_good : (l : Line) → In l t.lines → wholly_invalid l ≡ false → good_block l.tag ≡ true
  live_tag_good l m u =
      let (i, k) = line_facts l m in
      let q : (good_block l.tag && eqb (set_index S l.tag) (i / S.ways)) ≡ true = rw u at k.tagged in
      and_1 (good_block l.tag) _ q

  pub tag_aligned : (l : Line) → In l t.lines → wholly_invalid l ≡ false → l.tag % 128 ≡ 0
  tag_aligned l m u = eqb-true (l.tag % 128) 0 (and_1 (eqb (l.tag % 128) 0) (ltb l.tag (2 ^ 48)) (live_tag_good l m u))

  -- its sectors are RESERVED where the entries say so
  pub reserved_at : (l : Line) → In l t.lines → wholly_invalid l ≡ false → (k : ℕ) → k < 4
      → is_reserved (get_or l.sectors k empty).status ≡ any (entry_for (l.tag + 32 * k)) t.misses
  unfolding reserved_ok
  reserved_at l m u k h = same_is _ _ (every_at (agrees t.misses l) 4 k (rw u at (all_in (reserved_ok t.misses) t.lines ok.reserve m)) h)

  -- lines that hold one block are one
  pub holder_one : (b i j : ℕ) → i < length t.lines → j < length t.lines → holds b (get_or t.lines i fresh) ≡ true
      → holds b (get_or t.lines j fresh) ≡ true → i ≡ j
  unfolding alone
  holder_one b i j h k e f =
      let l : Line = get_or t.lines i fresh in
      let u : wholly_invalid l ≡ false = holds_used b l e in
      let q : l.tag ≡ b = holds_tag b l e in
      let c : eqb (count (holds l.tag) t.lines) 1 ≡ true = rw u at (all_in (alone t.lines) t.lines ok.single (in_get_or t.lines i fresh h)) in
      count_index (holds b) fresh t.lines (rw q at (eqb-true (count (holds l.tag) t.lines) 1 c)) i j h k e f

  -- and stand in the block's set
  pub holder_set : (a i : ℕ) → i < length t.lines → holds (block_of a) (get_or t.lines i fresh) ≡ true → set_index S a ≡ i / S.ways
  holder_set a i h e =
      let l : Line = get_or t.lines i fresh in
      let u : wholly_invalid l ≡ false = holds_used (block_of a) l e in
      let o : (good_block l.tag && eqb (set_index S l.tag) (i / S.ways)) ≡ true = rw u at (line_at i h).tagged in
      sym (set_of_block S a) ∙ ap (set_index S) (sym (holds_tag (block_of a) l e)) ∙ eqb-true (set_index S l.tag) (i / S.ways) (and_2 (good_block l.tag) _ o)

  pub entry_at : (e : Entry) → In e t.misses → EntryIs S t e
  entry_at e m = entry_parts S t e (all_in (entry_ok S t) t.misses ok.entered m)

  -- one ticket or more, and no more than there are places for
  pub tickets_of_lem : (e : Entry) → In e t.misses → (1 ≤ length e.tickets) × (length e.tickets ≤ S.readers)
  tickets_of_lem e m =
      let w = (entry_at e m).readers in
      let n : ℕ = length e.tickets in
      (leb-true 1 n (and_1 (leb 1 n) (leb n S.readers) w), leb-true n S.readers (and_2 (leb 1 n) (leb n S.readers) w))

  pub some_tickets : (i : ℕ) → i < length t.misses → 1 ≤ length (get_or t.misses i no_entry).tickets
  some_tickets i h = (tickets_of_lem (get_or t.misses i no_entry) (in_get_or t.misses i no_entry h)).0

  pub few_tickets : (i : ℕ) → i < length t.misses → length (get_or t.misses i no_entry).tickets ≤ S.readers
  few_tickets i h = (tickets_of_lem (get_or t.misses i no_entry) (in_get_or t.misses i no_entry h)).1

  pub entry-one : (e d : Entry) → In e t.misses → In d t.misses → d.address ≡ e.address → d ≡ e
  entry-one e d m n q =
      count_one (entry_for e.address) t.misses (eqb-true (count (entry_for e.address) t.misses) 1 (entry_at e m).once)
      n (eq-eqb d.address e.address q) m (eq-eqb e.address e.address refl)

  pub queued_at_lem : (y : Queued) → In y t.queue → queued_ok t.misses y ≡ true
  queued_at_lem y m = all_in (queued_ok t.misses) t.queue ok.lining m

  -- an unsent entry has one read in the queue
  pub unsent_once : (e : Entry) → In e t.misses → e.sent ≡ false → count (reading_of e.address) t.queue ≡ 1
  unsent_once e m h = eqb-true (count (reading_of e.address) t.queue) 1 (rw h at (entry_at e m).queues)

-- ---- a queued entry

-- four masks of 32 bits, and what its kind asks
pub queued_parts : (es : List Entry) (x : Queued) → queued_ok es x ≡ true
    → (length x.masks ≡ 4) × (all (λ m. leb m all_ones) x.masks ≡ true) × (kind_ok es x.kind x.address x.masks ≡ true)
unfolding queued_ok
queued_parts es x h = (eqb-true (length x.masks) 4 (search (and_1, and_2)), search (and_1, and_2), search (and_1, and_2))

kind_when : (es fs : List Entry) (k : QueueKind) (a : ℕ) (ms : List ℕ) → (is_fetch k ≡ true → any (unsent_for a) es ≡ true → any (unsent_for a) fs ≡ true)
    → kind_ok es k a ms ≡ true → kind_ok fs k a ms ≡ true
kind_when es fs queue.Read a ms f h = and_i (f refl (and_1 (any (unsent_for a) es) (all (λ m. eqb m 0) ms) h)) (and_2 (any (unsent_for a) es) (all (λ m. eqb m 0) ms) h)
kind_when es fs queue.WriteBack a ms f h = h

-- it stands with the other, if a read's entry waits there still
pub queued_when : (es fs : List Entry) (x : Queued)
    → (is_fetch x.kind ≡ true → any (unsent_for x.address) es ≡ true → any (unsent_for x.address) fs ≡ true)
    → queued_ok es x ≡ true → queued_ok fs x ≡ true
unfolding queued_ok
queued_when es fs x f h =
    let (four, small, asked) = queued_parts es x h in
    and_i (and_i (eq-eqb (length x.masks) 4 four) small) (kind_when es fs x.kind x.address x.masks f asked)

kind_unsent : (es : List Entry) (k : QueueKind) (a : ℕ) (ms : List ℕ) → is_fetch k ≡ true → kind_ok es k a ms ≡ true → any (unsent_for a) es ≡ true
kind_unsent es queue.Read a ms f h = and_1 (any (unsent_for a) es) (all (λ m. eqb m 0) ms) h
kind_unsent es queue.WriteBack a ms f h = absurd (false≢true f)

-- a read has its entry
pub queued_unsent : (es : List Entry) (x : Queued) → is_fetch x.kind ≡ true → queued_ok es x ≡ true → any (unsent_for x.address) es ≡ true
queued_unsent es x f h = kind_unsent es x.kind x.address x.masks f (queued_parts es x h).2
