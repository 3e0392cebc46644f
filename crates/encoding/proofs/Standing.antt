-- The slices hold the tables number by number: `ByNumber`. Slices of the right lengths do exactly if they are the tables' encoding.
use Rattle.words.proofs.General.{ℕ, zero, suc, ◌+◌, ◌*◌, ◌/◌, ◌%◌, ◌≤◌, ◌<◌, not-suc-le-zero, le_of_suc-le-suc, mul-zero, mul-suc, mul_comm, zero-add, add-zero, div-add-mod}
use Rattle.words.proofs.General.{div-lt_iff_lt-mul, mod-lt, arith, ◌≡◌, refl, sym, ap, ◌∙◌, ⊎_elim, List, [], ◌∷◌, ◌++◌, map, length, get_or, length-append, length-map}
use Rattle.words.proofs.General.{List·getD-append, List·getD-eq-default, get_or-append-add, table, pad_to, packed, joined, region, offset_in, get_or-map_in, lt_or_ge, length-pad_to}
use Rattle.words.proofs.General.{length_places, block_get, stride, pad_to_get, table_list}
use Rattle.model.specs.declared.Settings.{Settings}
use Rattle.model.proofs.Terms.{lines_of, Tables, offset_of, long_sizes, word_sizes, mark_sizes, longs_length, words_length, marks_length, longs_from, words_from, marks_from, tag_region}
use Rattle.model.proofs.Terms.{miss_region, queue_region, cycle_region, mask_region, ticket_region, queue_mask_region, dirty_count_region, taken_region, tree_region, status_region}
use Rattle.model.proofs.Terms.{readable_region, sent_region, ticket_count_region, kind_region, Lent, encode, tag_of, cycle_of, taken_of, tree_of, masks_of, statuses_of, readables_of, miss_of}
use Rattle.model.proofs.Terms.{sent_of, ticket_count_of, tickets_in, queued_of, kind_of, queue_masks_of, long_blocks, word_blocks, mark_blocks}
use Rattle.encoding.proofs.Slices.{long_sizes_lem, word_sizes_lem, mark_sizes_lem, begins, regions_joined, region_table}
use Rattle.encoding.proofs.LentSoundFacts.{tag, cycle, taken, status, mask, readable, miss, sent, ticket_count, ticket, queued, kind, queue_mask, now, dirty_count, tree}

infixr 2 ◌⨾◌
-- one fact after another
◌⨾◌ : {A B : Type 0} → A → B → A × B
◌⨾◌ a b = (a, b)

-- number k of the field g of record e, 0 where there is none
unfoldable pub field : {A : Type 0} → (A → List ℕ) → List A → ℕ → ℕ → ℕ
field g xs e k = get_or (get_or (map g xs) e []) k 0

module _ {A : Type 0} (g : A → List ℕ) where
  pub field_in : (xs : List A) (d : A) (e k : ℕ) → e < length xs → field g xs e k ≡ get_or (g (get_or xs e d)) k 0
  unfolding field
  field_in xs d e k h = rw (get_or-map_in g xs d [] e h)

  pub field_out : (xs : List A) (e k : ℕ) → length xs ≤ e → field g xs e k ≡ 0
  unfolding field
  field_out xs e k h = rw (List·getD-eq-default (map g xs) [] {n = e} (rw length-map h))

-- ---- places

first-place : (w k : ℕ) (l r : List ℕ) → k < w → get_or (pad_to w l ++ r) (w * 0 + k) 0 ≡ get_or l k 0
first-place w k l r h =
    rw (mul-zero, zero-add) (List·getD-append (pad_to w l) r 0 k (rw length-pad_to h) ∙ pad_to_get w l k h)

later_place : (w e k : ℕ) (l r : List ℕ) → get_or (pad_to w l ++ r) (w * suc e + k) 0 ≡ get_or r (w * e + k) 0
later_place w e k l r =
    let s : length (pad_to w l) ≡ w = length-pad_to w l in
    let q : w * suc e + k ≡ length (pad_to w l) + (w * e + k) = rw mul-suc (omega arith) in
    ap (λ (i : ℕ). get_or (pad_to w l ++ r) i 0) q ∙ get_or-append-add (pad_to w l) r (w * e + k) 0

module _ {A : Type 0} (g : A → List ℕ) (w : ℕ) where
  places_field : (n e k : ℕ) (xs : List A) → e < n → k < w → get_or (packed g w n xs) (w * e + k) 0 ≡ field g xs e k
  unfolding packed field
  places_field zero e k xs h j = absurd (not-suc-le-zero h)
  places_field (suc n) zero k [] h j = first-place w k [] (packed g w n []) j
  places_field (suc n) (suc e) k [] h j = later_place w e k [] (packed g w n []) ∙ places_field n e k [] (le_of_suc-le-suc h) j
  places_field (suc n) zero k (x ∷ xs) h j = first-place w k (g x) (packed g w n xs) j
  places_field (suc n) (suc e) k (x ∷ xs) h j = later_place w e k (g x) (packed g w n xs) ∙ places_field n e k xs (le_of_suc-le-suc h) j

  table_places : (n : ℕ) (xs : List A) (f : ℕ → ℕ)
      → ((e k : ℕ) → e < n → k < w → f (w * e + k) ≡ field g xs e k) → table (w * n) f ≡ packed g w n xs
  table_places n xs f h =
      table_list (w * n) f (packed g w n xs) 0 (length_places g w n xs) (λ i b.
      let pos : 1 ≤ w = ⊎_elim (λ l. l) (λ z. let q : w ≡ 0 = omega arith in let c : i < 0 * n = rw q at b in absurd (omega arith)) (lt_or_ge 0 w) in
      let e : i / w < n = (div-lt_iff_lt-mul pos).1 (rw mul_comm at b) in
      let q : w * (i / w) + i % w ≡ i = div-add-mod i w in
      ap f (sym q) ∙ h (i / w) (i % w) e (mod-lt i pos) ∙ sym (places_field n (i / w) (i % w) xs e (mod-lt i pos))
      ∙ ap (λ (j : ℕ). get_or (packed g w n xs) j 0) q)

-- a place of one number
table_singles : {A : Type 0} (g : A → List ℕ) (n : ℕ) (xs : List A) (f : ℕ → ℕ)
    → ((e : ℕ) → e < n → f e ≡ field g xs e 0) → table n f ≡ packed g 1 n xs
table_singles g n xs f h =
    let q : n ≡ 1 * n = omega arith in
    ap (λ (m : ℕ). table m f) q
    ∙ table_places g 1 n xs f (λ e k i j.
    let z : 1 * e + k ≡ e = omega arith in
    let o : k ≡ 0 = omega arith in
    rw (z, o) (h e i))

-- ---- what stands where

pub record ByNumber (S : Settings) (L : Lent) (t : Tables) : Type 0 where
  pub tags : (l : ℕ) → l < lines_of S → tag S L l ≡ field tag_of t.lines l 0
  pub cycles : (l : ℕ) → l < lines_of S → cycle S L l ≡ field cycle_of t.lines l 0
  pub takens : (l : ℕ) → l < lines_of S → taken S L l ≡ field taken_of t.lines l 0
  pub statuses : (l k : ℕ) → l < lines_of S → k < 4 → status S L (4 * l + k) ≡ field statuses_of t.lines l k
  pub masks : (l k : ℕ) → l < lines_of S → k < 4 → mask S L (4 * l + k) ≡ field masks_of t.lines l k
  pub readables : (l k : ℕ) → l < lines_of S → k < 4 → readable S L (4 * l + k) ≡ field readables_of t.lines l k
  pub misses : (e : ℕ) → e < S.misses → miss S L e ≡ field miss_of t.misses e 0
  pub sents : (e : ℕ) → e < S.misses → sent S L e ≡ field sent_of t.misses e 0
  pub ticket_counts : (e : ℕ) → e < S.misses → ticket_count S L e ≡ field ticket_count_of t.misses e 0
  pub tickets : (e k : ℕ) → e < S.misses → k < S.readers → ticket S L (S.readers * e + k) ≡ field tickets_in t.misses e k
  pub queue : (p : ℕ) → p < S.queue → queued S L p ≡ field queued_of t.queue p 0
  pub kinds : (p : ℕ) → p < S.queue → kind S L p ≡ field kind_of t.queue p 0
  pub queue_masks : (p k : ℕ) → p < S.queue → k < 4 → queue_mask S L (4 * p + k) ≡ field queue_masks_of t.queue p k
  pub time : now S L ≡ t.now
  pub count : dirty_count S L ≡ t.dirty_count
  pub trees : (i : ℕ) → i < S.sets → tree S L i ≡ field tree_of t.trees i 0

-- ---- in the encoding the tables stand

-- number k of record e of the block j of blocks of sizes ns, which stands at index i of the slice
in_block : (bs : List (List ℕ)) {ns : List ℕ} → map length bs ≡ ns → {A : Type 0} (g : A → List ℕ) (w n : ℕ) (xs : List A) (j e k i : ℕ) → get_or bs j [] ≡ packed g w n xs → j < length bs
    → i ≡ offset_of ns j + (w * e + k) → e < n → k < w → get_or (joined bs) i 0 ≡ field g xs e k
in_block bs sizes g w n xs j e k i here h at a b =
    let s : length (get_or bs j []) ≡ w * n = ap length here ∙ length_places g w n xs in
    let r = stride w n e a in
    block_get bs j (w * e + k) {i = i} refl (at ∙ ap (λ (m : ℕ). m + (w * e + k)) (sym (begins bs j sizes))) h (omega arith)
    ∙ rw here (places_field g w n e k xs a b)

module _ (S : Settings) (t : Tables) where
  pub encode_stands : ByNumber S (encode S t) t
  unfolding encode
  encode_stands = record {
    tags = λ l h. in_block (long_blocks S t) (long_sizes_lem S t) tag_of 1 (lines_of S) t.lines tag_region l 0 l refl (omega arith) (omega arith) h (omega arith);
    misses = λ e h. in_block (long_blocks S t) (long_sizes_lem S t) miss_of 1 S.misses t.misses miss_region e 0 _ refl (omega arith) (omega arith) h (omega arith);
    queue = λ p h. in_block (long_blocks S t) (long_sizes_lem S t) queued_of 1 S.queue t.queue queue_region p 0 _ refl (omega arith) (omega arith) h (omega arith);
    time = refl;
    count = block_get (word_blocks S t) dirty_count_region 0 {i = words_from S dirty_count_region} refl (sym (begins (word_blocks S t) dirty_count_region (word_sizes_lem S t)) ∙ sym (add-zero (offset_in (word_blocks S t) dirty_count_region))) (omega arith) (omega arith);
    cycles = λ l h. in_block (word_blocks S t) (word_sizes_lem S t) cycle_of 1 (lines_of S) t.lines cycle_region l 0 (1 + l) refl (omega arith) (omega arith) h (omega arith);
    takens = λ l h. in_block (word_blocks S t) (word_sizes_lem S t) taken_of 1 (lines_of S) t.lines taken_region l 0 (words_from S taken_region + l) refl (omega arith) (omega arith) h (omega arith);
    trees = λ i h. in_block (word_blocks S t) (word_sizes_lem S t) tree_of 1 S.sets t.trees tree_region i 0 (words_from S tree_region + i) refl (omega arith) (omega arith) h (omega arith);
    masks = λ l k h j. in_block (word_blocks S t) (word_sizes_lem S t) masks_of 4 (lines_of S) t.lines mask_region l k _ refl (omega arith) refl h j;
    tickets = λ e k h j. in_block (word_blocks S t) (word_sizes_lem S t) tickets_in S.readers S.misses t.misses ticket_region e k _ refl (omega arith) refl h j;
    queue_masks = λ p k h j. in_block (word_blocks S t) (word_sizes_lem S t) queue_masks_of 4 S.queue t.queue queue_mask_region p k _ refl (omega arith) refl h j;
    statuses = λ l k h j. in_block (mark_blocks S t) (mark_sizes_lem S t) statuses_of 4 (lines_of S) t.lines status_region l k (4 * l + k) refl (omega arith) (omega arith) h j;
    readables = λ l k h j. in_block (mark_blocks S t) (mark_sizes_lem S t) readables_of 4 (lines_of S) t.lines readable_region l k _ refl (omega arith) refl h j;
    sents = λ e h. in_block (mark_blocks S t) (mark_sizes_lem S t) sent_of 1 S.misses t.misses sent_region e 0 _ refl (omega arith) (omega arith) h (omega arith);
    ticket_counts = λ e h. in_block (mark_blocks S t) (mark_sizes_lem S t) ticket_count_of 1 S.misses t.misses ticket_count_region e 0 _ refl (omega arith) (omega arith) h (omega arith);
    kinds = λ p h. in_block (mark_blocks S t) (mark_sizes_lem S t) kind_of 1 S.queue t.queue kind_region p 0 _ refl (omega arith) (omega arith) h (omega arith);
  }

-- ---- and slices in which they stand are the encoding

-- a field whose numbers stand from `at` on stands there as a region
module _ (l : List ℕ) (at : ℕ) {A : Type 0} (g : A → List ℕ) (n : ℕ) (xs : List A) where
  region_places : (w : ℕ) → at + w * n ≤ length l → ((e k : ℕ) → e < n → k < w → get_or l (at + (w * e + k)) 0 ≡ field g xs e k)
      → region l at (w * n) ≡ packed g w n xs
  region_places w h f = region_table l at (w * n) h ∙ table_places g w n xs (λ i. get_or l (at + i) 0) f

  region_singles : at + n ≤ length l → ((e : ℕ) → e < n → get_or l (at + e) 0 ≡ field g xs e 0) → region l at n ≡ packed g 1 n xs
  region_singles h f = region_table l at n h ∙ table_singles g n xs (λ i. get_or l (at + i) 0) f

module _ (S : Settings) (L : Lent) (t : Tables) (st : ByNumber S L t) where
  longs_stand : length L.longs ≡ longs_length S → L.longs ≡ joined (long_blocks S t)
  longs_stand e =
      regions_joined L.longs (long_sizes S) (long_blocks S t) (
      region_singles L.longs 0 tag_of (lines_of S) t.lines (omega arith) (λ l h. rw zero-add (st.tags l h))
      ⨾ region_singles L.longs (longs_from S miss_region) miss_of S.misses t.misses (omega arith) st.misses
      ⨾ region_singles L.longs (longs_from S queue_region) queued_of S.queue t.queue (omega arith) st.queue
      ⨾ e)

  words_stand : length L.words ≡ words_length S → L.words ≡ joined (word_blocks S t)
  unfolding table
  words_stand e =
      regions_joined L.words (word_sizes S) (word_blocks S t) (
      region_table L.words 0 1 (omega arith) ∙ ap (λ (c : ℕ). c ∷ []) st.time
      ⨾ region_singles L.words (words_from S cycle_region) cycle_of (lines_of S) t.lines (omega arith) st.cycles
      ⨾ region_places L.words (words_from S mask_region) masks_of (lines_of S) t.lines 4 (omega arith) st.masks
      ⨾ region_places L.words (words_from S ticket_region) tickets_in S.misses t.misses S.readers (omega arith) st.tickets
      ⨾ region_places L.words (words_from S queue_mask_region) queue_masks_of S.queue t.queue 4 (omega arith) st.queue_masks
      ⨾ region_table L.words (words_from S dirty_count_region) 1 (omega arith) ∙ ap (λ (c : ℕ). c ∷ []) (rw add-zero st.count)
      ⨾ region_singles L.words (words_from S taken_region) taken_of (lines_of S) t.lines (omega arith) st.takens
      ⨾ region_singles L.words (words_from S tree_region) tree_of S.sets t.trees (omega arith) st.trees
      ⨾ e)

  marks_stand : length L.marks ≡ marks_length S → L.marks ≡ joined (mark_blocks S t)
  marks_stand e =
      regions_joined L.marks (mark_sizes S) (mark_blocks S t) (
      region_places L.marks 0 statuses_of (lines_of S) t.lines 4 (omega arith) (λ l k h j. rw zero-add (st.statuses l k h j))
      ⨾ region_places L.marks (marks_from S readable_region) readables_of (lines_of S) t.lines 4 (omega arith) st.readables
      ⨾ region_singles L.marks (marks_from S sent_region) sent_of S.misses t.misses (omega arith) st.sents
      ⨾ region_singles L.marks (marks_from S ticket_count_region) ticket_count_of S.misses t.misses (omega arith) st.ticket_counts
      ⨾ region_singles L.marks (marks_from S kind_region) kind_of S.queue t.queue (omega arith) st.kinds
      ⨾ e)

  pub standing_encodes : length L.longs ≡ longs_length S → length L.words ≡ words_length S → length L.marks ≡ marks_length S → L ≡ encode S t
  unfolding encode
  standing_encodes a b c = rw (← longs_stand a, ← words_stand b, ← marks_stand c)

-- the encoding has the right lengths
pub encode-lengths : (S : Settings) (t : Tables)
    → (length (encode S t).longs ≡ longs_length S) × (length (encode S t).words ≡ words_length S) × (length (encode S t).marks ≡ marks_length S)
unfolding encode
encode-lengths S t = simp (length-append, length_places) (omega arith)
