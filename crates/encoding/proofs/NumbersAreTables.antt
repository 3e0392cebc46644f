-- Tables of the settings' shape, and slices in which they stand: each number of the slices as the tables' own, each test on the numbers
-- as the test on the tables; and the tables are what is read off the slices.
use Rattle.words.proofs.General.{ℕ, ◌+◌, ◌*◌, ◌≤◌, ◌<◌, add-zero, arith, ◌≡◌, refl, sym, ap, ◌∙◌, ⊎_elim, Bool, true, false, not, ◌||◌, List, [], ◌∷◌, map, length, get_or}
use Rattle.words.proofs.General.{get_or-replicate, List·getD-eq-default, eqb, count, table, all, any, some, count_below, not-both, get_or-map_in, lt_or_ge, eqb_swap, count_short}
use Rattle.words.proofs.General.{count_same, some_same, any_get, count_get, table_list}
use Rattle.model.specs.declared.Settings.{Settings}
use Rattle.model.specs.declared.Status.{Status}
use Rattle.model.specs.declared.Sector.{Sector}
use Rattle.model.specs.declared.QueueKind.{QueueKind}
use Rattle.model.specs.declared.Queued.{Queued}
use Rattle.model.proofs.Terms.{status_number, queue_kind_number, queue_kind_of, lines_of, Line, Entry, Tables, is_invalid, is_reserved, wholly_invalid, is_fetch, idle, empty, fresh, no_entry}
use Rattle.model.proofs.Terms.{is_modified, dirty, dirty_lines, Lent, bit, tag_of, cycle_of, taken_of, tree_of, miss_of, sent_of, ticket_count_of, tickets_in, queued_of, kind_of, queue_masks_of}
use Rattle.model.proofs.Terms.{sector_at, sectors_at, line_at, entry_at, queue_at, tables_of, reading_of}
use Rattle.model.proofs.Answers.{by_status, by_kind, status_of_number}
use Rattle.encoding.proofs.InUse.{in_use_is}
use Rattle.encoding.proofs.LentSoundFacts.{tag, cycle, taken, status, mask, readable, miss, sent, ticket_count, ticket, queued, kind, queue_mask, tree, live, dirty_line, read_for, Used}
use Rattle.encoding.proofs.Standing.{field, field_in, field_out, ByNumber}

-- ---- records of the tables by their place

abbrev pub line : Tables → ℕ → Line
line t l = get_or t.lines l fresh

abbrev pub sector : Tables → ℕ → ℕ → Sector
sector t l k = get_or (line t l).sectors k empty

abbrev pub entry : Tables → ℕ → Entry
entry t e = get_or t.misses e no_entry

abbrev pub place : Tables → ℕ → Queued
place t p = get_or t.queue p idle

-- a queue place's numbers
abbrev pub address_in : Queued → ℕ
address_in x = x.address

abbrev pub kind_in : Queued → ℕ
kind_in x = queue_kind_number x.kind

abbrev pub mask_in : Queued → ℕ → ℕ
mask_in x k = get_or x.masks k 0

pub record Shape (S : Settings) (t : Tables) : Type 0 where
  pub size : length t.lines ≡ lines_of S
  pub fours : (l : ℕ) → l < lines_of S → length (line t l).sectors ≡ 4
  pub few : length t.misses ≤ S.misses
  pub held : (e : ℕ) → e < length t.misses → 1 ≤ length (entry t e).tickets
  pub short : (e : ℕ) → e < length t.misses → length (entry t e).tickets ≤ S.readers
  pub deep : length t.queue ≤ S.queue
  pub masked : (p : ℕ) → p < length t.queue → length (place t p).masks ≡ 4
  pub treed : length t.trees ≡ S.sets

-- ---- numbers and what they stand for

pub modified_number : (x : Status) → eqb (status_number x) 3 ≡ is_modified x
modified_number = by_status (λ x. eqb (status_number x) 3 ≡ is_modified x) refl refl refl refl

pub invalid_number : (x : Status) → eqb (status_number x) 0 ≡ is_invalid x
invalid_number = by_status (λ x. eqb (status_number x) 0 ≡ is_invalid x) refl refl refl refl

pub reserved_number : (x : Status) → eqb (status_number x) 1 ≡ is_reserved x
reserved_number = by_status (λ x. eqb (status_number x) 1 ≡ is_reserved x) refl refl refl refl

pub flag_of_bit : (r : Bool) → eqb (bit r) 1 ≡ r
flag_of_bit true = refl
flag_of_bit false = refl

pub kind_some : (k : QueueKind) → queue_kind_number k ≡ 0 → ⊥
kind_some = by_kind (λ k. queue_kind_number k ≡ 0 → ⊥) (λ z. omega arith) (λ z. omega arith)

pub kind_back : (k : QueueKind) → queue_kind_of (queue_kind_number k) ≡ k
kind_back = by_kind (λ k. queue_kind_of (queue_kind_number k) ≡ k) refl refl

pub fetch_number : (k : QueueKind) → eqb (queue_kind_number k) 1 ≡ is_fetch k
fetch_number = by_kind (λ k. eqb (queue_kind_number k) 1 ≡ is_fetch k) refl refl

any_not : {A : Type 0} (p : A → Bool) (xs : List A) → any (λ x. not (p x)) xs ≡ not (all p xs)
any_not p [] = refl
any_not p (x ∷ xs) = ap (λ (b : Bool). not (p x) || b) (any_not p xs) ∙ sym (not-both (p x) (all p xs))

module _ {A : Type 0} where
  -- at a default that gives 0
  field_get : (g : A → List ℕ) (xs : List A) (d : A) (e k : ℕ) → get_or (g d) k 0 ≡ 0
      → field g xs e k ≡ get_or (g (get_or xs e d)) k 0
  field_get g xs d e k z =
      ⊎_elim (λ h. field_in g xs d e k h)
      (λ h. field_out g xs e k h ∙ sym (ap (λ (x : A). get_or (g x) k 0) (List·getD-eq-default xs d h) ∙ z))
      (lt_or_ge e (length xs))

-- ---- records put together again

pub queued_back : (x : Queued) {k : QueueKind} {a : ℕ} {ms : List ℕ} → k ≡ x.kind → a ≡ x.address → ms ≡ x.masks
    → record { kind = k; address = a; masks = ms } ≡ x
queued_back x p q r = rw (p, q, r)

-- the four sectors of a line, as a table
pub sectors_table : (S : Settings) (words marks : List ℕ) (l : ℕ) → sectors_at S words marks l ≡ table 4 (λ k. sector_at S words marks (4 * l + k))
unfolding table
sectors_table S words marks l = rw (add-zero (4 * l))

-- ---- the numbers

module _ (S : Settings) (L : Lent) (t : Tables) (st : ByNumber S L t) (sh : Shape S t) where
  in_lines : (l : ℕ) → l < lines_of S → l < length t.lines
  in_lines l h = let e = sh.size in omega arith

  pub tag_is : (l : ℕ) → l < lines_of S → tag S L l ≡ (line t l).tag
  tag_is l h = st.tags l h ∙ field_in tag_of t.lines fresh l 0 (in_lines l h)

  pub cycle_is : (l : ℕ) → l < lines_of S → cycle S L l ≡ (line t l).cycle
  cycle_is l h = st.cycles l h ∙ field_in cycle_of t.lines fresh l 0 (in_lines l h)

  pub lent-taken_is : (l : ℕ) → l < lines_of S → taken S L l ≡ (line t l).taken
  lent-taken_is l h = st.takens l h ∙ field_in taken_of t.lines fresh l 0 (in_lines l h)

  pub lent_tree_is : (i : ℕ) → i < S.sets → tree S L i ≡ get_or t.trees i 0
  lent_tree_is i h = st.trees i h ∙ field_in tree_of t.trees 0 i 0 (rw sh.treed h)

  of_sectors : (f : Sector → ℕ) (l k : ℕ) → l < lines_of S → k < 4 → field (λ (x : Line). map f x.sectors) t.lines l k ≡ f (sector t l k)
  of_sectors f l k h j = field_in (λ (x : Line). map f x.sectors) t.lines fresh l k (in_lines l h) ∙ get_or-map_in f (line t l).sectors empty 0 k (omega (arith, sh.fours l h))

  pub status_is : (l k : ℕ) → l < lines_of S → k < 4 → status S L (4 * l + k) ≡ status_number (sector t l k).status
  status_is l k h j = st.statuses l k h j ∙ of_sectors (λ (s : Sector). status_number s.status) l k h j

  pub mask_is : (l k : ℕ) → l < lines_of S → k < 4 → mask S L (4 * l + k) ≡ (sector t l k).mask
  mask_is l k h j = st.masks l k h j ∙ of_sectors (λ (s : Sector). s.mask) l k h j

  pub readable_is : (l k : ℕ) → l < lines_of S → k < 4 → readable S L (4 * l + k) ≡ bit (sector t l k).readable
  readable_is l k h j = st.readables l k h j ∙ of_sectors (λ (s : Sector). bit s.readable) l k h j

  -- a test on the status of each sector of a line, in the numbers and in the tables
  of_statuses : (p : ℕ → Bool) (q : Status → Bool) → ((x : Status) → p (status_number x) ≡ q x) → (l : ℕ) → l < lines_of S
      → some 4 (λ k. p (status S L (4 * l + k))) ≡ any (λ (s : Sector). q s.status) (line t l).sectors
  of_statuses p q e l h =
      some_same (λ k. p (status S L (4 * l + k))) (λ k. q (sector t l k).status) 4 (λ k j. ap p (status_is l k h j) ∙ e (sector t l k).status)
      ∙ sym (rw (any_get (λ (s : Sector). q s.status) (line t l).sectors empty, sh.fours l h))

  pub live_is : (l : ℕ) → l < lines_of S → live S L l ≡ not (wholly_invalid (line t l))
  live_is l h =
      of_statuses (λ n. not (eqb n 0)) (λ x. not (is_invalid x)) (λ x. ap not (invalid_number x)) l h
      ∙ any_not (λ (s : Sector). is_invalid s.status) (line t l).sectors

  dirty_is : (l : ℕ) → l < lines_of S → dirty_line S L l ≡ dirty (line t l)
  dirty_is = of_statuses (λ n. eqb n 3) is_modified modified_number

  -- the dirty lines, counted in the numbers and in the tables
  pub dirty_counts : count_below (lines_of S) (dirty_line S L) ≡ dirty_lines t
  dirty_counts =
      count_same (dirty_line S L) (λ l. dirty (line t l)) (lines_of S) dirty_is
      ∙ ap (λ (n : ℕ). count_below n (λ l. dirty (line t l))) (sym sh.size)
      ∙ sym (count_get dirty t.lines fresh)

  pub miss_is : (e : ℕ) → e < S.misses → miss S L e ≡ (entry t e).address
  miss_is e h = st.misses e h ∙ field_get miss_of t.misses no_entry e 0 refl

  pub lent_sent_is : (e : ℕ) → e < S.misses → sent S L e ≡ bit (entry t e).sent
  lent_sent_is e h = st.sents e h ∙ field_get sent_of t.misses no_entry e 0 refl

  pub count_is : (e : ℕ) → e < S.misses → ticket_count S L e ≡ length (entry t e).tickets
  count_is e h = st.ticket_counts e h ∙ field_get ticket_count_of t.misses no_entry e 0 refl

  pub ticket_is : (e k : ℕ) → e < S.misses → k < S.readers → ticket S L (S.readers * e + k) ≡ get_or (entry t e).tickets k 0
  ticket_is e k h j = st.tickets e k h j ∙ field_get tickets_in t.misses no_entry e k refl

  -- an entry is in use exactly if the tables have it
  pub count_out : (e : ℕ) → e < S.misses → length t.misses ≤ e → ticket_count S L e ≡ 0
  count_out e h k = count_is e h ∙ ap (λ (x : Entry). length x.tickets) (List·getD-eq-default t.misses no_entry k)

  pub entry_in : (e : ℕ) → e < S.misses → Used S L e → e < length t.misses
  entry_in e h u = ⊎_elim (λ l. l) (λ k. absurd (u (count_out e h k))) (lt_or_ge e (length t.misses))

  pub in_entry : (e : ℕ) → e < length t.misses → Used S L e
  in_entry e h z =
      let q : ticket_count S L e ≡ length (entry t e).tickets = count_is e (omega arith) in
      let o : 1 ≤ length (entry t e).tickets = sh.held e h in
      omega arith

  -- ---- the queue

  pub kind_in_lem : (p : ℕ) → p < length t.queue → kind S L p ≡ kind_in (place t p)
  kind_in_lem p h = let d = sh.deep in st.kinds p (omega arith) ∙ field_in kind_of t.queue idle p 0 h

  pub kind_out : (p : ℕ) → p < S.queue → length t.queue ≤ p → kind S L p ≡ 0
  kind_out p h k = st.kinds p h ∙ field_out kind_of t.queue p 0 k

  pub queued_in : (p : ℕ) → p < length t.queue → queued S L p ≡ address_in (place t p)
  queued_in p h = let d = sh.deep in st.queue p (omega arith) ∙ field_in queued_of t.queue idle p 0 h

  pub queued_out : (p : ℕ) → p < S.queue → length t.queue ≤ p → queued S L p ≡ 0
  queued_out p h k = st.queue p h ∙ field_out queued_of t.queue p 0 k

  pub queue_mask_is : (p k : ℕ) → p < S.queue → k < 4 → queue_mask S L (4 * p + k) ≡ mask_in (place t p) k
  queue_mask_is p k h j = st.queue_masks p k h j ∙ field_get queue_masks_of t.queue idle p k (get_or-replicate 4 k 0 0 j)

  pub place_in : (p : ℕ) → p < S.queue → (kind S L p ≡ 0 → ⊥) → p < length t.queue
  place_in p h u = ⊎_elim (λ l. l) (λ k. absurd (u (kind_out p h k))) (lt_or_ge p (length t.queue))

  pub in_place : (p : ℕ) → p < length t.queue → kind S L p ≡ 0 → ⊥
  in_place p h z = kind_some (place t p).kind (sym (kind_in_lem p h) ∙ z)

  pub reads_are : (a : ℕ) → count_below S.queue (read_for S L a) ≡ count (reading_of a) t.queue
  reads_are a =
      count_short (read_for S L a) S.queue (length t.queue) sh.deep (λ p h k. rw (kind_out p h k))
      ∙ count_same (read_for S L a) (λ p. reading_of a (place t p)) (length t.queue)
      (λ p h. rw (kind_in_lem p h, queued_in p h, fetch_number (place t p).kind, eqb_swap (place t p).address a))
      ∙ sym (count_get (reading_of a) t.queue idle)

  -- ---- the tables read off

  sector_again : (l k : ℕ) → l < lines_of S → k < 4 → sector_at S L.words L.marks (4 * l + k) ≡ sector t l k
  sector_again l k h j = rw (status_is l k h j, status_of_number (sector t l k).status, mask_is l k h j, readable_is l k h j, flag_of_bit (sector t l k).readable)

  line_again : (l : ℕ) → l < lines_of S → line_at S L.longs L.words L.marks l ≡ line t l
  line_again l h =
      let four = sectors_table S L.words L.marks l ∙ table_list 4 _ (line t l).sectors empty (sh.fours l h) (λ k j. sector_again l k h j) in
      rw (tag_is l h, cycle_is l h, lent-taken_is l h, four)

  entry_again : (e : ℕ) → e < length t.misses → entry_at S L e ≡ entry t e
  entry_again e l =
      let h : e < S.misses = omega arith in
      let c = count_is e h in
      let w = sh.short e l in
      let all = table_list _ (λ j. ticket S L (S.readers * e + j)) (entry t e).tickets 0 (sym c) (λ j k. ticket_is e j h (omega arith)) in
      rw (miss_is e h, lent_sent_is e h, flag_of_bit (entry t e).sent, all)

  place_again : (p : ℕ) → p < length t.queue → queue_at S L p ≡ place t p
  place_again p l =
      queued_back (place t p) (ap queue_kind_of (kind_in_lem p l) ∙ kind_back (place t p).kind) (queued_in p l)
      (table_list 4 (λ k. queue_mask S L (4 * p + k)) (place t p).masks 0 (sh.masked p l) (λ k j. queue_mask_is p k (omega arith) j))

  pub stands_tables : tables_of S L ≡ t
  unfolding tables_of
  stands_tables =
      rw (
        table_list (lines_of S) (line_at S L.longs L.words L.marks) t.lines fresh sh.size line_again,
        in_use_is (ticket_count S L) S.misses (length t.misses) sh.few in_entry count_out,
        table_list (length t.misses) (entry_at S L) t.misses no_entry refl entry_again,
        in_use_is (kind S L) S.queue (length t.queue) sh.deep in_place kind_out,
        table_list (length t.queue) (queue_at S L) t.queue idle refl place_again,
        st.time,
        st.count,
        table_list S.sets (tree S L) t.trees 0 sh.treed lent_tree_is,
      )
