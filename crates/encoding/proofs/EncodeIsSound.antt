-- Slices in which sound tables stand are sound: each fact on the tables gives those on the numbers.
use Rattle.words.proofs.General.{ℕ, suc, ◌+◌, ◌*◌, ◌/◌, ◌%◌, ◌≤◌, ◌<◌, div-add-mod, div-lt_iff_lt-mul, mod-lt, mul_comm, arith, ◌≡◌, refl, sym, ap, ◌∙◌, ⊎_elim, Bool, true, false}
use Rattle.words.proofs.General.{not, length, get_or-replicate, List·getD-eq-default, eqb, some_i, lt_or_ge}
use Rattle.model.proofs.Terms.{queue_kind_number, lines_of, sector_index, Entry, Tables, idle, no_entry, Lent, bit}
use Rattle.model.specs.declared.Settings.{Settings}
use Rattle.model.specs.declared.Queued.{Queued}
use Rattle.model.proofs.Answers.{by_kind, status_below}
use Rattle.encoding.proofs.LentSoundFacts.{tag, status, readable, miss, sent, ticket_count, ticket, queued, kind, Used, LentLineIs, SectorIs, Reserves, LentEntryIs, Unsent, PlaceIs, SoundIs}
use Rattle.encoding.proofs.Standing.{ByNumber}
use Rattle.encoding.proofs.NumbersAreTables.{line, sector, entry, place, mask_in, Shape, tag_is, cycle_is, lent-taken_is, lent_tree_is, status_is, mask_is, readable_is, live_is, dirty_counts, miss_is, lent_sent_is, count_is, ticket_is, count_out, entry_in, in_entry, kind_in_lem, kind_out, queued_in, queued_out, queue_mask_is, place_in, in_place, reads_are}
use Rattle.encoding.proofs.SoundByPlace.{Soundly, soundly_shape, bit_clear}

pub bit_low : (r : Bool) → bit r ≤ 1
bit_low true = omega arith
bit_low false = omega arith

module _ (S : Settings) (L : Lent) (t : Tables) (st : ByNumber S L t) (so : Soundly S t) where
  sh : Shape S t
  sh = soundly_shape S t so

  -- ---- lines

  line_is : (l : ℕ) → l < lines_of S → LentLineIs S L l
  line_is l h =
      let a = tag_is S L t st sh l h in
      record {
        facts = rw (live_is S L t st sh l h, a, cycle_is S L t st sh l h, lent-taken_is S L t st sh l h, st.time) (so.lines l h).facts;
        alone = λ v m j r w e.
            let b : m < lines_of S = omega arith in
            let q : m ≡ l = so.alone l h (sym (live_is S L t st sh l h) ∙ v) m (omega arith) (sym (live_is S L t st sh m b) ∙ w) (sym (tag_is S L t st sh m b) ∙ e ∙ a) in
            omega arith;
      }

  -- ---- sectors

  sector_is : (l k : ℕ) → l < lines_of S → k < 4 → SectorIs S L (4 * l + k)
  sector_is l k h j =
      let x = status_is S L t st sh l k h j in
      let r = readable_is S L t st sh l k h j in
      record {
        known = rw x (omega (arith, status_below (sector t l k).status));
        mark = rw r (bit_low (sector t l k).readable);
        facts = rw (x, mask_is S L t st sh l k h j, r) ((so.lines l h).sectors k j).0;
        backed = λ q.
            let v = some_i (λ k. not (eqb (status S L (4 * l + k)) 0)) 4 k j (rw q) in
            let (e, i, w) = (so.agrees l h (sym (live_is S L t st sh l h) ∙ v) k j).0 (sym x ∙ q) in
            let b : e < S.misses = omega (arith, so.few) in
            let y : (4 * l + k) / 4 ≡ l = omega arith in
            let z : (4 * l + k) % 4 ≡ k = omega arith in
            (e, b, (in_entry S L t st sh e i, rw (y, z) (miss_is S L t st sh e b ∙ w ∙ ap (λ (n : ℕ). n + 32 * k) (sym (tag_is S L t st sh l h)))));
      }

  -- ---- entries

  entry_out : (e : ℕ) → e < S.misses → ticket_count S L e ≡ 0 → length t.misses ≤ e
  entry_out e h z = ⊎_elim (λ l. absurd (in_entry S L t st sh e l z)) (λ k. k) (lt_or_ge e (length t.misses))

  -- the line of an entry has its sector, RESERVED
  entry_home : (e : ℕ) → e < S.misses → Used S L e → (l : ℕ) × (l < lines_of S) × Reserves S L (miss S L e) l
  entry_home e h u =
      let i : e < length t.misses = entry_in S L t st sh e h u in
      let f = so.entries e i in
      let (l, b, (v, at)) = f.home in
      let n : l < lines_of S = omega (arith, so.size) in
      let j : sector_index (entry t e).address < 4 = omega arith in
      let a : (entry t e).address ≡ (line t l).tag + 32 * sector_index (entry t e).address = omega arith in
      let x : status S L (4 * l + sector_index (entry t e).address) ≡ 1 =
      status_is S L t st sh l (sector_index (entry t e).address) n j ∙ (so.agrees l n v (sector_index (entry t e).address) j).1 (e, i, a) in
      let m = miss_is S L t st sh e h in
      (l, n, record { lives = live_is S L t st sh l n ∙ v; has = rw m (tag_is S L t st sh l n ∙ at); waits = rw m x })

  entry_is : (e : ℕ) → e < S.misses → LentEntryIs S L e
  entry_is e h =
      let m = miss_is S L t st sh e h in
      let x = lent_sent_is S L t st sh e h in
      let c = count_is S L t st sh e h in
      record {
        few = ⊎_elim (λ l. rw c (so.entries e l).short) (λ k. omega (arith, count_out S L t st sh e h k)) (lt_or_ge e (length t.misses));
        mark = rw x (bit_low (entry t e).sent);
        blank = λ z. let o : entry t e ≡ no_entry = List·getD-eq-default t.misses no_entry (entry_out e h z) in
            (m ∙ ap (λ (y : Entry). y.address) o, x ∙ ap (λ (y : Entry). bit y.sent) o);
        even = λ u. rw m (so.entries e (entry_in S L t st sh e h u)).even;
        backed = entry_home e h;
        alone = λ u d k (v, q).
            let b : d < S.misses = omega arith in
            let i : e < length t.misses = entry_in S L t st sh e h u in
            let z : d ≡ e = (so.entries e i).alone d (omega arith) (sym (miss_is S L t st sh d b) ∙ q ∙ m) in
            omega arith;
        asked = λ (u, z). rw m (reads_are S L t st sh (entry t e).address
            ∙ (so.entries e (entry_in S L t st sh e h u)).asked (bit_clear (entry t e).sent (sym x ∙ z)));
      }

  -- ---- the queue

  place_out : (p : ℕ) → p < S.queue → kind S L p ≡ 0 → length t.queue ≤ p
  place_out p h z = ⊎_elim (λ l. absurd (in_place S L t st sh p l z)) (λ k. k) (lt_or_ge p (length t.queue))

  -- a place whose kind isn't 0
  place_i : (p : ℕ) → p < S.queue → {n : ℕ} → kind S L p ≡ suc n → p < length t.queue
  place_i p h {n} q = place_in S L t st sh p h (λ z. omega arith)

  read-entry : (p : ℕ) → p < S.queue → kind S L p ≡ 1 → (e : ℕ) × (e < S.misses) × Unsent S L (queued S L p) e
  read-entry p h q =
      let l : p < length t.queue = place_i p h q in
      let (e, i, (a, s)) = (so.queue p l).fitting.backed (sym (kind_in_lem S L t st sh p l) ∙ q) in
      let b : e < S.misses = omega (arith, so.few) in (
        e,
        b,
        record {
          used = in_entry S L t st sh e i;
          waits = lent_sent_is S L t st sh e b ∙ ap bit s;
          has = miss_is S L t st sh e b ∙ a ∙ sym (queued_in S L t st sh p l);
        },
      )

  place_stands : (p : ℕ) → p < S.queue → PlaceIs S L p
  place_stands p h = record {
    known = ⊎_elim (λ l. rw (kind_in_lem S L t st sh p l) (by_kind (λ k. queue_kind_number k ≤ 2) (omega arith) (omega arith) (place t p).kind)) (λ k. omega (arith, kind_out S L t st sh p h k)) (lt_or_ge p (length t.queue));
    blank = λ z. queued_out S L t st sh p h (place_out p h z);
    bare = λ q k j.
        queue_mask_is S L t st sh p k h j
        ∙ ⊎_elim (λ l. (so.queue p l).fitting.bare (by_kind (λ k. queue_kind_number k ≤ 1 → queue_kind_number k ≡ 1) (λ z. refl) (λ z. absurd (omega arith)) (place t p).kind (rw (kind_in_lem S L t st sh p l) at q)) k j)
        (λ o. ap (λ (x : Queued). mask_in x k) (List·getD-eq-default t.queue idle o) ∙ get_or-replicate 4 k 0 0 j) (lt_or_ge p (length t.queue));
    block = λ q. let l : p < length t.queue = place_i p h q in
        rw (queued_in S L t st sh p l) ((so.queue p l).fitting.block (sym (kind_in_lem S L t st sh p l) ∙ q));
    dirty = λ q.
        let l : p < length t.queue = place_i p h q in
        let (k, j, d) = (so.queue p l).fitting.dirty (sym (kind_in_lem S L t st sh p l) ∙ q) in
        (k, j, λ z. d (sym (queue_mask_is S L t st sh p k h j) ∙ z));
    backed = read-entry p h;
  }

  -- ---- all of it

  tickets_are : 1 ≤ S.readers → (i : ℕ) → i < S.readers * S.misses → ticket_count S L (i / S.readers) ≤ i % S.readers → ticket S L i ≡ 0
  tickets_are pos i h k =
      let b : i / S.readers < S.misses = (div-lt_iff_lt-mul pos).1 (rw mul_comm at h) in
      let c : length (entry t (i / S.readers)).tickets ≤ i % S.readers = rw (count_is S L t st sh (i / S.readers) b) at k in
      ap (ticket S L) (sym (div-add-mod i S.readers))
      ∙ ticket_is S L t st sh (i / S.readers) (i % S.readers) b (mod-lt i pos)
      ∙ List·getD-eq-default (entry t (i / S.readers)).tickets 0 c

  pub stands_sound : 1 ≤ S.readers → SoundIs S L
  stands_sound pos = record {
    time = rw st.time so.time;
    lines = line_is;
    sectors = λ i h. let q : 4 * (i / 4) + i % 4 ≡ i = omega arith in rw q at (sector_is (i / 4) (i % 4) (omega arith) (omega arith));
    tickets = tickets_are pos;
    entries-first = λ e h z. let k : length t.misses ≤ e = entry_out e (omega arith) z in count_out S L t st sh (e + 1) (omega arith) (omega arith);
    entries = entry_is;
    places-first = λ p h z. let k : length t.queue ≤ p = place_out p (omega arith) z in kind_out S L t st sh (p + 1) (omega arith) (omega arith);
    places = place_stands;
    counted = st.count ∙ so.counted ∙ sym (dirty_counts S L t st sh);
    trees = λ i h. rw (lent_tree_is S L t st sh i h) (so.turned i (rw so.treed h));
  }
