-- What `sound_lent` says of the numbers in the lent slices, as facts: a record for a line, a sector, an entry and a queue place.
-- `sound_is`: `sound_lent` is true exactly if they hold.
use Rattle.words.proofs.General.{ℕ, ◌+◌, ◌*◌, ◌-◌, ◌/◌, ◌%◌, ◌^◌, ◌≤◌, ◌<◌, ◌≡◌, ◌⊎◌, Bool, true, false, count_below, Decides, is_flag, is_eq, is_le, is_lt, is_not, ◌⊓◌, is_or}
use Rattle.words.proofs.General.{is_imp, is_both, is_else, is_every, is_some, is_none, is_as}
use Rattle.model.specs.declared.Settings.{Settings}
use Rattle.model.proofs.Terms.{lines_of, is_tree, good_block, block_of, sector_index, set_index, Lent, tag_at, cycle_at, status_at, mask_at, readable_at, miss_at, sent_at, ticket_count_at}
use Rattle.model.proofs.Terms.{ticket_at, queued_at, queue_kind_at, queue_mask_at, now_at, dirty_count_at, taken_at, tree_at, last_cycle, all_ones, tree_fine}
use Rattle.model.specs.SoundLent as lent

-- ---- the numbers of the slices, and the tests on them that stay tests

module _ (S : Settings) (L : Lent) where
  abbrev pub tag : ℕ → ℕ
  tag = tag_at L.longs

  abbrev pub cycle : ℕ → ℕ
  cycle = cycle_at L.words

  abbrev pub taken : ℕ → ℕ
  taken = taken_at S L.words

  abbrev pub status : ℕ → ℕ
  status = status_at L.marks

  abbrev pub mask : ℕ → ℕ
  mask = mask_at S L.words

  abbrev pub readable : ℕ → ℕ
  readable = readable_at S L.marks

  abbrev pub miss : ℕ → ℕ
  miss = miss_at S L.longs

  abbrev pub sent : ℕ → ℕ
  sent = sent_at S L.marks

  abbrev pub ticket_count : ℕ → ℕ
  ticket_count = ticket_count_at S L.marks

  abbrev pub ticket : ℕ → ℕ
  ticket = ticket_at S L.words

  abbrev pub queued : ℕ → ℕ
  queued = queued_at S L.longs

  abbrev pub kind : ℕ → ℕ
  kind = queue_kind_at S L.marks

  abbrev pub queue_mask : ℕ → ℕ
  queue_mask = queue_mask_at S L.words

  abbrev pub now : ℕ
  now = now_at L.words

  abbrev pub dirty_count : ℕ
  dirty_count = dirty_count_at S L.words

  abbrev pub tree : ℕ → ℕ
  tree = tree_at S L.words

  abbrev pub dirty_line : ℕ → Bool
  dirty_line = lent.dirty_line S L.longs L.words L.marks

  abbrev pub live : ℕ → Bool
  live = lent.live S L.longs L.words L.marks

  abbrev pub read_for : ℕ → ℕ → Bool
  read_for = lent.read_for S L.longs L.words L.marks

-- ---- the facts

pub record Block (a : ℕ) : Type 0 where
  pub even : a % 128 ≡ 0
  pub low : a < 2 ^ 48

-- a line, that lives or not, at place l; its tag, cycle, cycle taken, and the current cycle
pub record LineFacts (S : Settings) (l : ℕ) (living : Bool) (a c k n : ℕ) : Type 0 where
  pub dead : living ≡ false → ((a ≡ 0) × (c ≡ 0)) × (k ≡ 0)
  pub block : living ≡ true → Block a
  pub home : living ≡ true → set_index S a ≡ l / S.ways
  pub past : c ≤ n
  pub since : k ≤ c

-- a sector: the numbers of its status and its readability, and its mask
pub record SectorFacts (x m r : ℕ) : Type 0 where
  pub clean : (x ≡ 0) ⊎ (x ≡ 2) → m ≡ 0
  pub dirty : x ≡ 3 → m ≡ 0 → ⊥
  pub unreadable : r ≡ 0 → (x ≡ 3) × (m ≡ all_ones → ⊥)

-- of n places those whose f isn't 0 are the first
abbrev pub UsedFirst : ℕ → (ℕ → ℕ) → Type 0
UsedFirst n f = (i : ℕ) → i < n - 1 → f i ≡ 0 → f (i + 1) ≡ 0

module _ (S : Settings) (L : Lent) where
  abbrev pub Live : ℕ → Type 0
  Live l = live S L l ≡ true

  abbrev pub Used : ℕ → Type 0
  Used e = ticket_count S L e ≡ 0 → ⊥

  pub record LentLineIs (l : ℕ) : Type 0 where
    pub facts : LineFacts S l (live S L l) (tag S L l) (cycle S L l) (taken S L l) (now S L)
    pub alone : Live l → (m : ℕ) → m < l → m / S.ways ≡ l / S.ways → Live m → tag S L m ≡ tag S L l → ⊥

  pub record SectorIs (i : ℕ) : Type 0 where
    pub known : status S L i ≤ 3
    pub mark : readable S L i ≤ 1
    pub facts : SectorFacts (status S L i) (mask S L i) (readable S L i)
    pub backed : status S L i ≡ 1 → (e : ℕ) × (e < S.misses) × (Used e × (miss S L e ≡ tag S L (i / 4) + 32 * (i % 4)))

  -- line l has the sector of address a, RESERVED
  pub record Reserves (a l : ℕ) : Type 0 where
    pub lives : Live l
    pub has : tag S L l ≡ block_of a
    pub waits : status S L (4 * l + sector_index a) ≡ 1

  pub record LentEntryIs (e : ℕ) : Type 0 where
    pub few : ticket_count S L e ≤ S.readers
    pub mark : sent S L e ≤ 1
    pub blank : ticket_count S L e ≡ 0 → (miss S L e ≡ 0) × (sent S L e ≡ 0)
    pub even : Used e → miss S L e % 32 ≡ 0
    pub backed : Used e → (l : ℕ) × (l < lines_of S) × Reserves (miss S L e) l
    pub alone : Used e → (d : ℕ) → d < e → Used d × (miss S L d ≡ miss S L e) → ⊥
    pub asked : Used e × (sent S L e ≡ 0) → count_below S.queue (read_for S L (miss S L e)) ≡ 1

  pub record Unsent (a e : ℕ) : Type 0 where
    pub used : Used e
    pub waits : sent S L e ≡ 0
    pub has : miss S L e ≡ a

  pub record PlaceIs (p : ℕ) : Type 0 where
    pub known : kind S L p ≤ 2
    pub blank : kind S L p ≡ 0 → queued S L p ≡ 0
    pub bare : kind S L p ≤ 1 → (k : ℕ) → k < 4 → queue_mask S L (4 * p + k) ≡ 0
    pub block : kind S L p ≡ 2 → Block (queued S L p)
    pub dirty : kind S L p ≡ 2 → (k : ℕ) × (k < 4) × (queue_mask S L (4 * p + k) ≡ 0 → ⊥)
    pub backed : kind S L p ≡ 1 → (e : ℕ) × (e < S.misses) × Unsent (queued S L p) e

  pub record SoundIs : Type 0 where
    pub time : now S L ≤ last_cycle
    pub lines : (l : ℕ) → l < lines_of S → LentLineIs l
    pub sectors : (i : ℕ) → i < 4 * lines_of S → SectorIs i
    pub tickets : (i : ℕ) → i < S.readers * S.misses → ticket_count S L (i / S.readers) ≤ i % S.readers → ticket S L i ≡ 0
    pub entries-first : UsedFirst S.misses (ticket_count S L)
    pub entries : (e : ℕ) → e < S.misses → LentEntryIs e
    pub places-first : UsedFirst S.queue (kind S L)
    pub places : (p : ℕ) → p < S.queue → PlaceIs p
    pub counted : dirty_count S L ≡ count_below (lines_of S) (dirty_line S L)
    pub trees : (i : ℕ) → i < S.sets → tree_fine (is_tree S) S.ways (tree S L i) ≡ true

-- ---- each test with its facts

pub good_block_is : (a : ℕ) → Decides (good_block a) (Block a)
good_block_is a = is_as (is_eq (a % 128) 0 ⊓ is_lt a (2 ^ 48)) (λ w. record { even = w.0; low = w.1 }) (λ r. (r.even, r.low))

first_is : (n : ℕ) (f : ℕ → ℕ) → Decides (lent.gathered n f) (UsedFirst n f)
first_is n f = is_every (n - 1) (λ i. is_imp (is_eq (f i) 0) (is_eq (f (i + 1)) 0))

module _ (S : Settings) (L : Lent) where
  line_is : (l : ℕ) → Decides (lent.line_fine S L.longs L.words L.marks l) (LentLineIs S L l)
  line_is l =
      is_as
      (is_else {a = live S L l} (λ v. is_eq (tag S L l) 0 ⊓ is_eq (cycle S L l) 0 ⊓ is_eq (taken S L l) 0)
      ⊓ is_both (is_flag (live S L l)) (good_block_is (tag S L l)) (is_eq (set_index S (tag S L l)) (l / S.ways))
      ⊓ is_le (cycle S L l) (now S L)
      ⊓ is_le (taken S L l) (cycle S L l)
      ⊓ is_imp (is_flag (live S L l)) (is_every l (λ m. is_imp (is_eq (m / S.ways) (l / S.ways)) (is_imp (is_flag (live S L m)) (is_not (is_eq (tag S L m) (tag S L l)))))))
      (λ w. search depth 8)
      (λ r. search depth 8)

  used_is : (e : ℕ) → Decides (lent.used S L.longs L.words L.marks e) (Used S L e)
  used_is e = is_not (is_eq (ticket_count S L e) 0)

  sector_is : (i : ℕ) → Decides (lent.sector_fine S L.longs L.words L.marks i) (SectorIs S L i)
  sector_is i =
      is_as
      (is_le (status S L i) 3
      ⊓ is_le (readable S L i) 1
      ⊓ is_imp (is_or (is_eq (status S L i) 0) (is_eq (status S L i) 2)) (is_eq (mask S L i) 0)
      ⊓ is_imp (is_eq (status S L i) 3) (is_not (is_eq (mask S L i) 0))
      ⊓ is_imp (is_eq (readable S L i) 0) (is_eq (status S L i) 3 ⊓ is_not (is_eq (mask S L i) all_ones))
      ⊓ is_imp (is_eq (status S L i) 1) (is_some S.misses (λ e. used_is e ⊓ is_eq (miss S L e) (tag S L (i / 4) + 32 * (i % 4)))))
      (λ w. search depth 8)
      (λ r. search depth 8)

  reserves_is : (a l : ℕ) → Decides (lent.reserved_for S L.longs L.words L.marks a l) (Reserves S L a l)
  reserves_is a l =
      is_as (is_flag (live S L l) ⊓ is_eq (tag S L l) (block_of a) ⊓ is_eq (status S L (4 * l + sector_index a)) 1)
      (λ w. record { lives = w.0.0; has = w.0.1; waits = w.1 })
      (λ r. ((r.lives, r.has), r.waits))

  entry_is : (e : ℕ) → Decides (lent.entry_fine S L.longs L.words L.marks e) (LentEntryIs S L e)
  entry_is e =
      is_as
      (is_le (ticket_count S L e) S.readers
      ⊓ is_le (sent S L e) 1
      ⊓ is_imp (is_eq (ticket_count S L e) 0) (is_eq (miss S L e) 0 ⊓ is_eq (sent S L e) 0)
      ⊓ is_both (used_is e) (is_eq (miss S L e % 32) 0) (is_some (lines_of S) (reserves_is (miss S L e)))
      ⊓ is_imp (used_is e) (is_none e (λ d. used_is d ⊓ is_eq (miss S L d) (miss S L e)))
      ⊓ is_imp (used_is e ⊓ is_eq (sent S L e) 0) (is_eq (count_below S.queue (read_for S L (miss S L e))) 1))
      (λ w. search depth 8)
      (λ r. search depth 8)

  unsent_is : (a e : ℕ) → Decides (lent.unsent_at_for S L.longs L.words L.marks a e) (Unsent S L a e)
  unsent_is a e =
      is_as (used_is e ⊓ is_eq (sent S L e) 0 ⊓ is_eq (miss S L e) a)
      (λ w. record { used = w.0.0; waits = w.0.1; has = w.1 })
      (λ r. ((r.used, r.waits), r.has))

  place_stands : (p : ℕ) → Decides (lent.place_fine S L.longs L.words L.marks p) (PlaceIs S L p)
  place_stands p =
      is_as
      (is_le (kind S L p) 2
      ⊓ is_imp (is_eq (kind S L p) 0) (is_eq (queued S L p) 0)
      ⊓ is_imp (is_le (kind S L p) 1) (is_every 4 (λ k. is_eq (queue_mask S L (4 * p + k)) 0))
      ⊓ is_imp (is_eq (kind S L p) 2) (good_block_is (queued S L p) ⊓ is_some 4 (λ k. is_not (is_eq (queue_mask S L (4 * p + k)) 0)))
      ⊓ is_imp (is_eq (kind S L p) 1) (is_some S.misses (unsent_is (queued S L p))))
      (λ w. record { known = w.0.0.0.0; blank = w.0.0.0.1; bare = w.0.0.1; block = λ k. (w.0.1 k).0; dirty = λ k. (w.0.1 k).1; backed = w.1 })
      (λ r. ((((r.known, r.blank), r.bare), λ k. (r.block k, r.dirty k)), r.backed))

  pub sound_is : Decides (lent.sound_lent S L) (SoundIs S L)
  unfolding lent.sound_numbers
  sound_is =
      is_as
      (is_le (now S L) last_cycle
      ⊓ is_every (lines_of S) line_is
      ⊓ is_every (4 * lines_of S) sector_is
      ⊓ is_every (S.readers * S.misses) (λ i. is_imp (is_le (ticket_count S L (i / S.readers)) (i % S.readers)) (is_eq (ticket S L i) 0))
      ⊓ first_is S.misses (ticket_count S L)
      ⊓ is_every S.misses entry_is
      ⊓ first_is S.queue (kind S L)
      ⊓ is_every S.queue place_stands
      ⊓ is_eq (dirty_count S L) (count_below (lines_of S) (dirty_line S L))
      ⊓ is_every S.sets (λ i. is_flag (tree_fine (is_tree S) S.ways (tree S L i))))
      (λ w. search depth 12)
      (λ r. search depth 12)
