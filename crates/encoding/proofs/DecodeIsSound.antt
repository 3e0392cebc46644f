-- Sound slices: tables that stand in them are sound, and those that are read off them do stand in them.
use Rattle.words.proofs.General.{ℕ, zero, suc, ◌+◌, ◌*◌, ◌/◌, ◌%◌, ◌^◌, ◌≤◌, ◌<◌, add-zero, mul_comm, mul-add-mod_self_left, mod-eq_of_lt, arith, ◌≡◌, refl, sym, ap, ◌∙◌, ⊎_elim}
use Rattle.words.proofs.General.{true, List, map, length, get_or, List·getD-eq-default, eqb, table, lt_or_ge, below_four, squeeze, stride, length_table, get_or_table}
use lib.Arith.{digits_div}
use Rattle.model.specs.declared.Settings.{Settings}
use Rattle.model.specs.declared.Sector.{Sector}
use Rattle.model.proofs.Terms.{status_number, status_of, queue_kind_number, queue_kind_of, lines_of, is_tree, block_of, sector_index, set_index, Line, Tables, idle, fresh, no_entry, words_from}
use Rattle.model.proofs.Terms.{queue_mask_region, Lent, bit, tag_of, cycle_of, masks_of, statuses_of, readables_of, miss_of, sent_of, ticket_count_of, tickets_in, queued_of, kind_of}
use Rattle.model.proofs.Terms.{queue_masks_of, in_use, sector_at, sectors_at, line_at, entry_at, queue_at, tables_of, taken_of, tree_of, tree_fine}
pub use Rattle.model.specs.SoundLent.{Small}
use Rattle.encoding.proofs.InUse.{FirstUsed, first_used}
use Rattle.encoding.proofs.LentSoundFacts.{tag, status, mask, readable, miss, sent, ticket_count, ticket, kind, queue_mask, Live, UsedFirst, SoundIs, tree}
use Rattle.encoding.proofs.Standing.{field, field_in, field_out, ByNumber}
use Rattle.encoding.proofs.NumbersAreTables.{entry, place, Shape, tag_is, cycle_is, lent-taken_is, lent_tree_is, status_is, mask_is, readable_is, dirty_counts, miss_is, lent_sent_is, entry_in, in_entry, kind_in_lem, queued_in, queue_mask_is, reads_are, live_is}
use Rattle.encoding.proofs.SoundByPlace.{LineOk, OnlyTag, Agrees, EntryOk, QueuedOk, Soundly, bit_clear}

module _ (S : Settings) (L : Lent) (is : SoundIs S L) where
  -- a tag is on one live line only
  one_line : (l k : ℕ) → l < lines_of S → k < lines_of S → Live S L l → Live S L k → tag S L l ≡ tag S L k → l ≡ k
  one_line l k hl hk vl vk e =
      let p : l / S.ways ≡ k / S.ways = sym ((is.lines l hl).facts.home vl) ∙ ap (set_index S) e ∙ (is.lines k hk).facts.home vk in
      squeeze l k (λ h. (is.lines k hk).alone vk l h p vl e) (λ h. (is.lines l hl).alone vl k h (sym p) vk (sym e))

-- ---- tables that stand in them

module _ (S : Settings) (L : Lent) (t : Tables) (st : ByNumber S L t) (sh : Shape S t) (is : SoundIs S L) (small : Small L) where
  in_lines : (l : ℕ) → l < length t.lines → l < lines_of S
  in_lines l h = let e = sh.size in omega arith

  line_ok : (l : ℕ) → l < lines_of S → LineOk S t l
  line_ok l h = record {
    four = sh.fours l h;
    sectors = λ k j.
        let m = mask_is S L t st sh l k h j in (
          rw (status_is S L t st sh l k h j, m, readable_is S L t st sh l k h j) at (is.sectors (4 * l + k) (omega arith)).facts,
          rw m at (small (1 + lines_of S + (4 * l + k))),
        );
    facts = rw (live_is S L t st sh l h, tag_is S L t st sh l h, cycle_is S L t st sh l h, lent-taken_is S L t st sh l h, st.time) at (is.lines l h).facts;
  }

  alone : (l : ℕ) → l < lines_of S → OnlyTag S t l
  alone l h v m k u e =
      let b = in_lines m k in
      one_line S L is m l b h (live_is S L t st sh m b ∙ u) (live_is S L t st sh l h ∙ v) (tag_is S L t st sh m b ∙ e ∙ sym (tag_is S L t st sh l h))

  -- a sector of a line that lives is RESERVED exactly if an entry has its address
  agrees : (l : ℕ) → l < lines_of S → Agrees S t l
  agrees l h v k j =
      let x = status_is S L t st sh l k h j in
      let t-is = tag_is S L t st sh l h in (
        λ r.
            let (e, b, (u, a)) = (is.sectors (4 * l + k) (omega arith)).backed (x ∙ r) in
            let y : (4 * l + k) / 4 ≡ l = omega arith in
            let z : (4 * l + k) % 4 ≡ k = omega arith in
            let m : miss S L e ≡ tag S L l + 32 * k = rw (y, z) at a in
            (e, entry_in S L t st sh e b u, sym (miss_is S L t st sh e b) ∙ m ∙ ap (λ (n : ℕ). n + 32 * k) t-is),
        λ (e, i, q).
            let b : e < S.misses = omega (arith, sh.few) in
            let a : miss S L e ≡ tag S L l + 32 * k = miss_is S L t st sh e b ∙ q ∙ ap (λ (n : ℕ). n + 32 * k) (sym t-is) in
            let (n, c, w) = (is.entries e b).backed (in_entry S L t st sh e i) in
            let even : tag S L l % 128 ≡ 0 = ((is.lines l h).facts.block (live_is S L t st sh l h ∙ v)).even in
            let same : tag S L n ≡ tag S L l = w.has ∙ omega arith in
            let k-is : sector_index (miss S L e) ≡ k = omega arith in
            let n-is : n ≡ l = one_line S L is n l c h w.lives (live_is S L t st sh l h ∙ v) same in
            let waits : status S L (4 * l + k) ≡ 1 = rw (n-is, k-is) at w.waits in
            sym x ∙ waits,
      )

  -- ---- entries and the queue

  entry_ok_lem : (e : ℕ) → e < length t.misses → EntryOk S t e
  entry_ok_lem e i =
      let b : e < S.misses = omega (arith, sh.few) in
      let u = in_entry S L t st sh e i in
      let f = is.entries e b in
      let a = miss_is S L t st sh e b in
      let (l, h, w) = f.backed u in
      let low : tag S L l < 2 ^ 48 = ((is.lines l h).facts.block w.lives).low in
      let even : tag S L l % 128 ≡ 0 = ((is.lines l h).facts.block w.lives).even in
      let has : tag S L l ≡ block_of (miss S L e) = w.has in
      record {
        even = rw a at (f.even u);
        low = rw a at (below (miss S L e) (tag S L l) low even has);
        home = (l, omega (arith, sh.size), (sym (live_is S L t st sh l h) ∙ w.lives, sym (tag_is S L t st sh l h) ∙ rw a at has));
        alone = λ d k q.
            let c : d < S.misses = omega (arith, sh.few) in
            let v = in_entry S L t st sh d k in
            let o : miss S L d ≡ miss S L e = miss_is S L t st sh d c ∙ q ∙ sym a in
            squeeze d e (λ z. f.alone u d z (v, o)) (λ z. (is.entries d c).alone v e z (u, sym o));
        held = sh.held e i;
        short = sh.short e i;
        asked = λ s. sym (reads_are S L t st sh (entry t e).address) ∙ rw a at (f.asked (u, lent_sent_is S L t st sh e b ∙ ap bit s));
      }
    where
      below : (a b : ℕ) → b < 2 ^ 48 → b % 128 ≡ 0 → b ≡ block_of a → a < 2 ^ 48
      below a b low even has = omega arith

  queued_ok_lem : (p : ℕ) → p < length t.queue → QueuedOk S t (place t p)
  queued_ok_lem p l =
      let h : p < S.queue = omega (arith, sh.deep) in
      let f = is.places p h in
      let a = queued_in S L t st sh p l in
      let n = kind_in_lem S L t st sh p l in
      record {
        masked = sh.masked p l;
        small = λ k j. rw (queue_mask_is S L t st sh p k h j) at (small (words_from S queue_mask_region + (4 * p + k)));
        fitting = record {
          backed = λ q.
              let (e, b, w) = f.backed (n ∙ q) in (
                e,
                entry_in S L t st sh e b w.used,
                (sym (miss_is S L t st sh e b) ∙ w.has ∙ a, bit_clear (entry t e).sent (sym (lent_sent_is S L t st sh e b) ∙ w.waits)),
              );
          bare = λ q k j. sym (queue_mask_is S L t st sh p k h j) ∙ f.bare (omega arith) k j;
          block = λ q. rw a at (f.block (n ∙ q));
          dirty = λ q. let (k, j, d) = f.dirty (n ∙ q) in (k, j, λ z. d (queue_mask_is S L t st sh p k h j ∙ z));
        };
      }

  pub stands_soundly : Soundly S t
  stands_soundly =
      let time = rw st.time at is.time in
      let counted = sym st.count ∙ is.counted ∙ dirty_counts S L t st sh in
      let turned : (i : ℕ) → i < length t.trees → tree_fine (is_tree S) S.ways (get_or t.trees i 0) ≡ true =
      λ i h. let j : i < S.sets = rw sh.treed at h in rw (lent_tree_is S L t st sh i j) at (is.trees i j) in
      search (line_ok, alone, agrees, entry_ok_lem, queued_ok_lem)

-- ---- the tables that are read off

module _ {A : Type 0} (g : A → List ℕ) (n : ℕ) (f : ℕ → A) (e k : ℕ) where
  field_table : e < n → field g (table n f) e k ≡ get_or (g (f e)) k 0
  field_table h = field_in g (table n f) (f e) e k (rw length_table h) ∙ ap (λ (x : A). get_or (g x) k 0) (get_or_table n f e (f e) h)

-- a number of those in use of n places, which are the first, and past them 0
used_field : (u : ℕ → ℕ) (n : ℕ) → UsedFirst n u → {A : Type 0} (f : ℕ → A) (g : A → List ℕ) (e k : ℕ) {m : ℕ} → e < n
    → ((u e ≡ 0 → ⊥) → m ≡ get_or (g (f e)) k 0) → (u e ≡ 0 → m ≡ 0) → m ≡ field g (table (in_use n u) f) e k
used_field u n first f g e k h p z =
    ⊎_elim (λ l. p ((first_used u n first).used e l) ∙ sym (field_table g (in_use n u) f e k l))
    (λ o. z ((first_used u n first).free e h o) ∙ sym (field_out g (table (in_use n u) f) e k (rw length_table o))) (lt_or_ge e (in_use n u))

pub number_back : (n : ℕ) → n ≤ 3 → n ≡ status_number (status_of n)
number_back n h = below_four (λ n. n ≡ status_number (status_of n)) refl refl refl refl n (omega arith)

pub mark_back : (n : ℕ) → n ≤ 1 → n ≡ bit (eqb n 1)
mark_back zero h = refl
mark_back (suc zero) h = refl
mark_back (suc (suc n)) h = absurd (omega arith)

pub sector_numbers_at : (f : Sector → ℕ) (S : Settings) (words marks : List ℕ) (l k : ℕ) → k < 4
    → f (sector_at S words marks (4 * l + k)) ≡ get_or (map f (sectors_at S words marks l)) k 0
sector_numbers_at f S words marks l =
    below_four (λ k. f (sector_at S words marks (4 * l + k)) ≡ get_or (map f (sectors_at S words marks l)) k 0) (rw add-zero) refl refl refl

-- a kind by its number
kind_made : (k : ℕ) → k ≤ 2 → (k ≡ 0 → ⊥) → k ≡ queue_kind_number (queue_kind_of k)
kind_made zero h f = absurd (f refl)
kind_made (suc zero) h f = refl
kind_made (suc (suc zero)) h f = refl
kind_made (suc (suc (suc k))) h f = absurd (omega arith)

module _ (S : Settings) (L : Lent) (is : SoundIs S L) where
  abbrev few : ℕ
  few = in_use S.misses (ticket_count S L)

  abbrev deep : ℕ
  deep = in_use S.queue (kind S L)

  abbrev decoded_line : ℕ → Line
  decoded_line = line_at S L.longs L.words L.marks

  -- place k of the tickets of entry e, past them 0
  ticket_past : 1 ≤ S.readers → (e k : ℕ) → e < S.misses → k < S.readers → ticket_count S L e ≤ k → ticket S L (S.readers * e + k) ≡ 0
  ticket_past pos e k h j c =
      let x : (S.readers * e + k) / S.readers ≡ e = ap (λ (n : ℕ). (n + k) / S.readers) (mul_comm S.readers e) ∙ digits_div e j in
      let y : (S.readers * e + k) % S.readers ≡ k = mul-add-mod_self_left S.readers e k ∙ mod-eq_of_lt j in
      let b = stride S.readers S.misses e h in
      is.tickets (S.readers * e + k) (omega arith) (rw (x, y) c)

  ticket_at_lem : 1 ≤ S.readers → (e k : ℕ) → e < S.misses → k < S.readers
      → ticket S L (S.readers * e + k) ≡ get_or (table (ticket_count S L e) (λ j. ticket S L (S.readers * e + j))) k 0
  ticket_at_lem pos e k h j =
      ⊎_elim
      (λ c. sym (get_or_table (ticket_count S L e) (λ j. ticket S L (S.readers * e + j)) k 0 c))
      (λ c. ticket_past pos e k h j c ∙ sym (List·getD-eq-default (table (ticket_count S L e) (λ j. ticket S L (S.readers * e + j))) 0 (rw length_table c)))
      (lt_or_ge k (ticket_count S L e))

  pub read_stands : 1 ≤ S.readers → ByNumber S L (tables_of S L)
  unfolding tables_of
  read_stands pos = record {
    tags = λ l h. sym (field_table tag_of (lines_of S) decoded_line l 0 h);
    cycles = λ l h. sym (field_table cycle_of (lines_of S) decoded_line l 0 h);
    takens = λ l h. sym (field_table taken_of (lines_of S) decoded_line l 0 h);
    statuses = λ l k h j.
        number_back (status S L (4 * l + k)) (is.sectors (4 * l + k) (omega arith)).known
        ∙ sector_numbers_at (λ s. status_number s.status) S L.words L.marks l k j
        ∙ sym (field_table statuses_of (lines_of S) decoded_line l k h);
    masks = λ l k h j. sector_numbers_at (λ s. s.mask) S L.words L.marks l k j ∙ sym (field_table masks_of (lines_of S) decoded_line l k h);
    readables = λ l k h j.
        mark_back (readable S L (4 * l + k)) (is.sectors (4 * l + k) (omega arith)).mark
        ∙ sector_numbers_at (λ s. bit s.readable) S L.words L.marks l k j
        ∙ sym (field_table readables_of (lines_of S) decoded_line l k h);
    misses = λ e h. used_field (ticket_count S L) S.misses is.entries-first (entry_at S L) miss_of e 0 h (λ u. refl) (λ z. ((is.entries e h).blank z).0);
    sents = λ e h. used_field (ticket_count S L) S.misses is.entries-first (entry_at S L) sent_of e 0 h (λ u. mark_back (sent S L e) (is.entries e h).mark) (λ z. ((is.entries e h).blank z).1);
    ticket_counts = λ e h. used_field (ticket_count S L) S.misses is.entries-first (entry_at S L) ticket_count_of e 0 h (λ u. sym (length_table (ticket_count S L e) (λ j. ticket S L (S.readers * e + j)))) (λ z. z);
    tickets = λ e k h j. used_field (ticket_count S L) S.misses is.entries-first (entry_at S L) tickets_in e k h (λ u. ticket_at_lem pos e k h j) (λ z. ticket_past pos e k h j (omega arith));
    queue = λ p h. used_field (kind S L) S.queue is.places-first (queue_at S L) queued_of p 0 h (λ u. refl) (λ z. (is.places p h).blank z);
    kinds = λ p h. used_field (kind S L) S.queue is.places-first (queue_at S L) kind_of p 0 h (λ u. kind_made (kind S L p) (is.places p h).known u) (λ z. z);
    queue_masks = λ p k h j.
        used_field (kind S L) S.queue is.places-first (queue_at S L) queue_masks_of p k h
        (λ u. sym (get_or_table 4 (λ k. queue_mask S L (4 * p + k)) k 0 j))
        (λ z. (is.places p h).bare (omega arith) k j);
    time = refl;
    count = refl;
    trees = λ i h. sym (field_table tree_of S.sets (tree S L) i 0 h);
  }

  tickets_read : (e : ℕ) → e < few → length (entry (tables_of S L) e).tickets ≡ ticket_count S L e
  unfolding tables_of
  tickets_read e h = rw (get_or_table few (entry_at S L) e no_entry h, length_table)

  entries_used : FirstUsed (ticket_count S L) S.misses few
  entries_used = first_used (ticket_count S L) S.misses is.entries-first

  pub read_shape : Shape S (tables_of S L)
  unfolding tables_of
  read_shape = record {
    size = length_table (lines_of S) decoded_line;
    fours = λ l h. ap (λ (x : Line). length x.sectors) (get_or_table (lines_of S) decoded_line l fresh h);
    few = rw (length_table few (entry_at S L)) entries_used.few;
    held = λ e h.
        let i : e < few = rw (length_table few (entry_at S L)) at h in
        rw (tickets_read e i) (⊎_elim (λ k. k) (λ k. absurd (entries_used.used e i (omega arith))) (lt_or_ge 0 (ticket_count S L e)));
    short = λ e h.
        let i : e < few = rw (length_table few (entry_at S L)) at h in
        rw (tickets_read e i) (is.entries e (omega (arith, entries_used.few))).few;
    deep = rw (length_table deep (queue_at S L)) (first_used (kind S L) S.queue is.places-first).few;
    masked = λ p h.
        let i : p < deep = rw (length_table deep (queue_at S L)) at h in
        rw (get_or_table deep (queue_at S L) p idle i) (length_table 4 (λ k. queue_mask S L (4 * p + k)));
    treed = length_table S.sets (tree S L);
  }
