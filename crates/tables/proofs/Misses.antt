-- The miss table's leaves on the slices of tables: how many entries there are, what is read of one, and what stands after one is
-- marked, goes, gets a ticket or is made.
use Rattle.words.proofs.General.{ℕ, ◌+◌, ◌-◌, ◌*◌, ◌≤◌, ◌<◌, arith, ◌≡◌, refl, sym, ap, ◌∙◌, true, false, List, [], ◌∷◌, ◌++◌, length, get_or, set, drop, take, length-append}
use Rattle.words.proofs.General.{List·getD-eq-default, take-take, pad_to, packed, joined, region, put, closed, dropped, length_places, field_put, field_get, field-region, pad_to_get}
use Rattle.words.proofs.General.{eqb, take-pad_to, places_same, places_push_idle, field_push, field_extend, field_close_first}
use native.Mathlib.Decide.{dec_le}
use Rattle.model.proofs.Terms.{Entry, Tables, with_misses, bit, long_blocks, word_blocks, mark_blocks, miss_of, sent_of, ticket_count_of, tickets_in, lent, Encodes}
pub use Rattle.model.specs.Tables.{no_entry}
use Rattle.model.specs.declared.Settings.{Settings}
use Rattle.layout.specs.declared.Layout.{Layout}
use Rattle.layout.specs.Layout.{LaysOut}
use Rattle.layout.specs.Places.{First}
use Rattle.tables.specs.Raw.{ZerosFrom}
use Rattle.encoding.proofs.NumbersAreTables.{flag_of_bit}
use Rattle.layout.proofs.ByBlocks.{ByBlocks, is_stands}
use Rattle.layout.proofs.Grown.{field_used}
use Rattle.model.proofs.SoundFacts.{parts, few_misses, some_tickets}

abbrev pub with_sent : Entry → Entry
with_sent x = record { address = x.address; sent = true; tickets = x.tickets }

abbrev pub with_ticket : ℕ → Entry → Entry
with_ticket k x = record { address = x.address; sent = x.sent; tickets = x.tickets ++ (k ∷ []) }

abbrev pub unsent : ℕ → ℕ → Entry
unsent a k = record { address = a; sent = false; tickets = k ∷ [] }

region-part : (l : List ℕ) (i n w : ℕ) → n ≤ w → region l i n ≡ take n (region l i w)
unfolding region
region-part l i n w h = sym (take-take n w (drop i l) h)

module _ (S : Settings) (t : Tables) {longs words marks : List ℕ} (h : ByBlocks S longs words marks t) {at : Layout} (p : LaysOut S at) (few : length t.misses ≤ S.misses) where
  -- ---- what is read

  pub misses_used : ((k : ℕ) → k < length t.misses → 1 ≤ length (get_or t.misses k no_entry).tickets) → {r : ℕ} → First marks at.counts S.misses 0 r → r ≡ length t.misses
  unfolding pad_to
  misses_used some f =
      field_used ticket_count_of S.misses t.misses (mark_blocks S t) 3 {i = at.counts} h.as_marks refl (simp length_places (omega arith)) (omega arith) few no_entry
      (λ k below e. let z : length (get_or t.misses k no_entry).tickets ≡ 0 = e in omega (arith, some k below)) f

  module _ (e : ℕ) (below : e < length t.misses) where
    pub address-at : get_or longs (at.misses + e) 0 ≡ (get_or t.misses e no_entry).address
    unfolding pad_to
    address-at =
        field_get miss_of 1 S.misses t.misses (long_blocks S t) 1 e {i = at.misses + e} h.as_longs refl (simp length_places (omega arith)) (omega arith) below few no_entry 0 (omega arith) (omega arith)

    sent-number : get_or marks (at.sent + e) 0 ≡ bit (get_or t.misses e no_entry).sent
    unfolding pad_to
    sent-number =
        field_get sent_of 1 S.misses t.misses (mark_blocks S t) 2 e {i = at.sent + e} h.as_marks refl (simp length_places (omega arith)) (omega arith) below few no_entry 0 (omega arith) (omega arith)

    pub sent-at : eqb (get_or marks (at.sent + e) 0) 1 ≡ (get_or t.misses e no_entry).sent
    sent-at = ap (λ (k : ℕ). eqb k 1) sent-number ∙ flag_of_bit (get_or t.misses e no_entry).sent

    pub count_at : get_or marks (at.counts + e) 0 ≡ length (get_or t.misses e no_entry).tickets
    unfolding pad_to
    count_at =
        field_get ticket_count_of 1 S.misses t.misses (mark_blocks S t) 3 e {i = at.counts + e} h.as_marks refl (simp length_places (omega arith)) (omega arith) below few no_entry 0 (omega arith) (omega arith)

    pub tickets-at : length (get_or t.misses e no_entry).tickets ≤ S.readers → region words (at.tickets + S.readers * e) (length (get_or t.misses e no_entry).tickets) ≡ (get_or t.misses e no_entry).tickets
    tickets-at fits =
        region-part words (at.tickets + S.readers * e) (length (get_or t.misses e no_entry).tickets) S.readers fits
        ∙ ap (take (length (get_or t.misses e no_entry).tickets))
        (field-region tickets_in S.readers S.misses t.misses (word_blocks S t) 3 e {i = at.tickets + S.readers * e} h.as_words refl (simp length_places (omega arith)) (omega arith) below few no_entry)
        ∙ take-pad_to S.readers (get_or t.misses e no_entry).tickets fits

    -- behind its tickets the row is 0
    pub tickets-past : ZerosFrom words (at.tickets + S.readers * e) (length (get_or t.misses e no_entry).tickets) S.readers
    tickets-past j a b =
        field_get tickets_in S.readers S.misses t.misses (word_blocks S t) 3 e {i = at.tickets + S.readers * e} h.as_words refl (simp length_places (omega arith)) (omega arith) below few no_entry j b refl
        ∙ pad_to_get S.readers (get_or t.misses e no_entry).tickets j b
        ∙ List·getD-eq-default (get_or t.misses e no_entry).tickets 0 a

    -- ---- what is written

    -- its sent mark
    pub sent-stands : {marks' : List ℕ} → marks' ≡ put marks (at.sent + e) (1 ∷ []) → ByBlocks S longs words marks' (with_misses (set t.misses e (with_sent (get_or t.misses e no_entry))) t)
    unfolding pad_to
    sent-stands c =
        let y = with_sent (get_or t.misses e no_entry) in record {
          as_longs = rw (places_same miss_of 1 S.misses e t.misses no_entry y refl) h.as_longs;
          as_words = rw (places_same tickets_in S.readers S.misses e t.misses no_entry y refl) h.as_words;
          as_marks = rw (places_same ticket_count_of 1 S.misses e t.misses no_entry y refl)
              (field_put sent_of 1 S.misses t.misses (mark_blocks S t) 2 e h.as_marks refl (simp length_places (omega arith)) (omega arith) below few y refl c);
        }

    -- it goes, and the first m places close up
    pub remove-stands : (m : ℕ) → length t.misses ≤ m → m ≤ S.misses → {longs' words' marks' : List ℕ}
        → (longs' ≡ closed longs (at.misses + e) (m - e) 1) × (words' ≡ closed words (at.tickets + S.readers * e) (S.readers * (m - e)) S.readers)
        × (marks' ≡ closed (closed marks (at.sent + e) (m - e) 1) (at.counts + e) (m - e) 1)
        → ByBlocks S longs' words' marks' (with_misses (dropped e t.misses) t)
    remove-stands m f g c =
        let first : closed marks (at.sent + e) (m - e) 1 ≡ joined (set (mark_blocks S t) 2 (packed sent_of 1 S.misses (dropped e t.misses))) =
        field_close_first sent_of 1 S.misses t.misses (mark_blocks S t) 2 h.as_marks refl (omega arith) few m e {i = at.sent + e} (simp length_places (omega arith)) below f g (omega arith) refl in
        record {
          as_longs = field_close_first miss_of 1 S.misses t.misses (long_blocks S t) 1 h.as_longs refl (omega arith) few m e (simp length_places (omega arith)) below f g (omega arith) c.0;
          as_words = field_close_first tickets_in S.readers S.misses t.misses (word_blocks S t) 3 h.as_words refl (omega arith) few m e (simp length_places (omega arith)) below f g refl c.1;
          as_marks = field_close_first ticket_count_of 1 S.misses t.misses (set (mark_blocks S t) 2 (packed sent_of 1 S.misses (dropped e t.misses))) 3 first refl (omega arith) few m e (simp length_places (omega arith)) below f g (omega arith) c.2;
        }

    -- a ticket behind its n
    pub append-stands : (k n : ℕ) → n ≡ length (get_or t.misses e no_entry).tickets → n < S.readers → {words' marks' : List ℕ}
        → (words' ≡ put words (at.tickets + S.readers * e + n) (k ∷ [])) × (marks' ≡ put marks (at.counts + e) ((n + 1) ∷ []))
        → ByBlocks S longs words' marks' (with_misses (set t.misses e (with_ticket k (get_or t.misses e no_entry))) t)
    unfolding pad_to
    append-stands k n is room c =
        let y = with_ticket k (get_or t.misses e no_entry) in
        let one : ((n + 1) ∷ []) ≡ pad_to 1 (ticket_count_of (with_ticket k (get_or t.misses e no_entry))) = rw (length-append, is) in
        record {
          as_longs = rw (places_same miss_of 1 S.misses e t.misses no_entry y refl) h.as_longs;
          as_words = field_extend tickets_in S.readers S.misses t.misses (word_blocks S t) 3 h.as_words refl (omega arith) few e no_entry y (k ∷ []) (simp length_places (omega arith)) below (omega arith) refl c.0;
          as_marks = rw (places_same sent_of 1 S.misses e t.misses no_entry y refl)
              (field_put ticket_count_of 1 S.misses t.misses (mark_blocks S t) 3 e h.as_marks refl (simp length_places (omega arith)) (omega arith) below few y one c.1);
        }

  -- an entry behind the others
  pub new_entry_stands : (a k n : ℕ) → n ≡ length t.misses → n < S.misses → 1 ≤ S.readers → {longs' words' marks' : List ℕ}
      → (longs' ≡ put longs (at.misses + n) (a ∷ [])) × (words' ≡ put words (at.tickets + S.readers * n) (k ∷ [])) × (marks' ≡ put marks (at.counts + n) (1 ∷ []))
      → ByBlocks S longs' words' marks' (with_misses (t.misses ++ (unsent a k ∷ [])) t)
  unfolding pad_to
  new_entry_stands a k n is room some c =
      let w : S.readers * n ≡ S.readers * length t.misses = ap (λ (x : ℕ). S.readers * x) is in
      record {
        as_longs = field_push miss_of 1 S.misses t.misses (long_blocks S t) 1 h.as_longs refl (omega arith) few (simp length_places (omega arith)) (omega arith) (unsent a k) refl (omega arith) c.0;
        as_words = field_push tickets_in S.readers S.misses t.misses (word_blocks S t) 3 h.as_words refl (omega arith) few (simp length_places (omega arith)) (omega arith) (unsent a k) refl some c.1;
        as_marks = rw (places_push_idle sent_of 1 S.misses t.misses (unsent a k) refl)
            (field_push ticket_count_of 1 S.misses t.misses (mark_blocks S t) 3 h.as_marks refl (omega arith) few (simp length_places (omega arith)) (omega arith) (unsent a k) refl (omega arith) c.2);
      }

  -- ---- the search, among the entries that there are

  module _ {n r : ℕ} (all : n ≡ length t.misses) {a : ℕ} (f : First longs at.misses n a r) where
    pub entry_found : r < n → (get_or t.misses r no_entry).address ≡ a
    entry_found k = sym (address-at r (omega arith)) ∙ f.there k

    pub entry-missing : r ≡ n → (k : ℕ) → k < length t.misses → (get_or t.misses k no_entry).address ≡ a → ⊥
    entry-missing e k below q = f.before k (omega arith) (address-at k below ∙ q)

  -- among more places: the entry is there
  pub entry_first : {n r a : ℕ} → First longs at.misses n a r → r < n → (k : ℕ) → k < length t.misses → (get_or t.misses k no_entry).address ≡ a
      → (r < length t.misses) × ((get_or t.misses r no_entry).address ≡ a)
  entry_first {n} {r} {a} f i k below q = go (dec_le r k)
    where
      go : Dec (r ≤ k) → (r < length t.misses) × ((get_or t.misses r no_entry).address ≡ a)
      go (yes b) = let c : r < length t.misses = omega arith in (c, sym (address-at r c) ∙ f.there i)
      go (no b) = absurd (f.before k (omega arith) (address-at k below ∙ q))

-- how many entries are in use, of slices that hold sound tables
pub misses_counted : (S : Settings) {longs words marks : List ℕ} (t : Tables) → Encodes S (lent longs words marks) t → {at : Layout} → LaysOut S at
    → {n : ℕ} → First marks at.counts S.misses 0 n → n ≡ length t.misses
misses_counted S t i p u = let ok = parts S t i.soundly in misses_used S t (is_stands i) p (few_misses S t ok) (some_tickets S t ok) u
