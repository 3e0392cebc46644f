-- What `sound` says of the tables, as facts on the records by their place: a record for a line, an entry and a queue place.
-- `soundly_is`: `sound` is true exactly if they hold.
use Rattle.words.proofs.General.{ℕ, ◌+◌, ◌*◌, ◌/◌, ◌%◌, ◌^◌, ◌≤◌, ◌<◌, arith, ◌≡◌, refl, sym, ap, ◌∙◌, ◌⊎◌, ◌↔◌, inl, inr, ⊎_elim, Bool, true, false, not, ◌&&◌, ◌||◌, List, length}
use Rattle.words.proofs.General.{get_or, eqb, leb, eqb-true, eq-eqb, same, count, not-no, not_yes, no-not, no-yes, iff, clash, same_is, is_same, Decides, is_flag, is_eq, is_le}
use Rattle.words.proofs.General.{is_lt, is_not, ◌⊓◌, is_every, is_as, is_all, is_any, is_one, is_pick, is_else, is_test}
use Rattle.model.specs.declared.Settings.{Settings}
use Rattle.model.specs.declared.QueueKind.{QueueKind}
use Rattle.model.specs.declared.QueueKind.TheVariants as queue
use Rattle.model.specs.declared.Queued.{Queued}
use Rattle.model.specs.declared.Status.{Status}
use Rattle.model.specs.declared.Status.TheVariants.{Invalid, Reserved, Valid, Modified}
use Rattle.model.proofs.Terms.{status_number, queue_kind_number, lines_of, is_tree, block_of, set_index, Tables, wholly_invalid, holds, entry_for, idle, empty, fresh, no_entry, dirty_lines}
use Rattle.model.proofs.Terms.{bit, all_ones, last_cycle, mask_ok, sector_ok, line_ok, alone, agrees, reserved_ok, reading_of, unsent_for, entry_ok, kind_ok, queued_ok, sound, tree_fine}
use Rattle.encoding.proofs.LentSoundFacts.{Block, LineFacts, SectorFacts, good_block_is}
use Rattle.encoding.proofs.NumbersAreTables.{line, sector, entry, place, mask_in, Shape, reserved_number}

-- ---- a sector, by its numbers

-- its mask is a 32-bit number besides
abbrev pub SectorOk : ℕ → ℕ → ℕ → Type 0
SectorOk x m r = SectorFacts x m r × (m ≤ all_ones)

bit-set : (r : Bool) → r ≡ true → bit r ≡ 0 → ⊥
bit-set r e z = let q : bit true ≡ 0 = rw e at z in omega arith

set-bit : (r : Bool) → (bit r ≡ 0 → ⊥) → r ≡ true
set-bit true f = refl
set-bit false f = absurd (f refl)

pub bit_clear : (r : Bool) → bit r ≡ 0 → r ≡ false
bit_clear r z = no-yes (λ e. bit-set r e z)

-- INVALID or VALID: mask 0, readable
clean_is : (x m : ℕ) (r : Bool) → (x ≡ 0) ⊎ (x ≡ 2) → Decides (eqb m 0 && r) (SectorOk x m (bit r))
clean_is x m r c =
    is_as (is_eq m 0 ⊓ is_flag r) (λ w. let z = w.0 in let b : bit r ≡ 1 = ap bit w.1 in ⊎_elim (λ k. omega arith) (λ k. omega arith) c)
    (λ f. (f.0.clean c, set-bit r (λ e. let q = (f.0.unreadable e).0 in ⊎_elim (λ k. omega arith) (λ k. omega arith) c)))

-- RESERVED or MODIFIED
other : {x : ℕ} {X : Type 0} → (x ≡ 0) ⊎ (x ≡ 2) → (x ≡ 1) ⊎ (x ≡ 3) → X
other c o = absurd (⊎_elim (λ k. ⊎_elim (λ z. omega arith) (λ z. omega arith) o) (λ k. ⊎_elim (λ z. omega arith) (λ z. omega arith) o) c)

sector_ok_is : (s : Status) (m : ℕ) (r : Bool) → Decides (mask_ok s m r) (SectorOk (status_number s) m (bit r))
sector_ok_is Invalid m r = clean_is 0 m r (inl refl)
sector_ok_is Reserved m r =
    is_as (is_le m all_ones ⊓ is_flag r)
    (λ w. (record { clean = λ c. other c (inl refl); dirty = λ e. absurd (omega arith); unreadable = λ e. absurd (bit-set r w.1 e) }, w.0))
    (λ f. (f.1, set-bit r (λ e. let z : ◌≡◌ {A = ℕ} 1 3 = (f.0.unreadable e).0 in omega arith)))
sector_ok_is Valid m r = clean_is 2 m r (inr refl)
sector_ok_is Modified m r =
    is_as (is_le m all_ones ⊓ is_not (is_eq m 0) ⊓ is_else {a = r} (λ v. is_not (is_eq m all_ones)))
    (λ w. (record { clean = λ c. other c (inr refl); dirty = λ e. w.0.1; unreadable = λ e. (refl, w.1 (bit_clear r e)) }, w.0.0))
    (λ f. ((f.1, f.0.dirty refl), λ v. (f.0.unreadable (ap bit v)).1))

-- ---- the facts

module _ (S : Settings) (t : Tables) where
  abbrev pub Lives : ℕ → Type 0
  Lives l = not (wholly_invalid (line t l)) ≡ true

  pub record LineOk (l : ℕ) : Type 0 where
    pub four : length (line t l).sectors ≡ 4
    pub sectors : (k : ℕ) → k < 4 → SectorOk (status_number (sector t l k).status) (sector t l k).mask (bit (sector t l k).readable)
    pub facts : LineFacts S l (not (wholly_invalid (line t l))) (line t l).tag (line t l).cycle (line t l).taken t.now

  -- no other line that lives has its tag
  abbrev pub OnlyTag : ℕ → Type 0
  OnlyTag l = Lives l → (m : ℕ) → m < length t.lines → Lives m → (line t m).tag ≡ (line t l).tag → m ≡ l

  -- its sectors are RESERVED as the miss table says
  abbrev pub Agrees : ℕ → Type 0
  Agrees l = Lives l → (k : ℕ) → k < 4
      → (status_number (sector t l k).status ≡ 1) ↔ ((e : ℕ) × (e < length t.misses) × ((entry t e).address ≡ (line t l).tag + 32 * k))

  pub record EntryOk (e : ℕ) : Type 0 where
    pub even : (entry t e).address % 32 ≡ 0
    pub low : (entry t e).address < 2 ^ 48
    pub home : (l : ℕ) × (l < length t.lines) × (Lives l × ((line t l).tag ≡ block_of (entry t e).address))
    pub alone : (d : ℕ) → d < length t.misses → (entry t d).address ≡ (entry t e).address → d ≡ e
    pub held : 1 ≤ length (entry t e).tickets
    pub short : length (entry t e).tickets ≤ S.readers
    pub asked : (entry t e).sent ≡ false → count (reading_of (entry t e).address) t.queue ≡ 1

  -- what its kind asks of a queued entry
  pub record KindOk (k : QueueKind) (a : ℕ) (ms : List ℕ) : Type 0 where
    pub backed : queue_kind_number k ≡ 1 → (e : ℕ) × (e < length t.misses) × (((entry t e).address ≡ a) × ((entry t e).sent ≡ false))
    pub bare : queue_kind_number k ≡ 1 → (i : ℕ) → i < 4 → get_or ms i 0 ≡ 0
    pub block : queue_kind_number k ≡ 2 → Block a
    pub dirty : queue_kind_number k ≡ 2 → (i : ℕ) × (i < 4) × (get_or ms i 0 ≡ 0 → ⊥)

  pub record QueuedOk (x : Queued) : Type 0 where
    pub masked : length x.masks ≡ 4
    pub small : (k : ℕ) → k < 4 → mask_in x k ≤ all_ones
    pub fitting : KindOk x.kind x.address x.masks

  pub record Soundly : Type 0 where
    pub size : length t.lines ≡ lines_of S
    pub time : t.now ≤ last_cycle
    pub lines : (l : ℕ) → l < lines_of S → LineOk l
    pub alone : (l : ℕ) → l < lines_of S → OnlyTag l
    pub agrees : (l : ℕ) → l < lines_of S → Agrees l
    pub entries : (e : ℕ) → e < length t.misses → EntryOk e
    pub queue : (p : ℕ) → p < length t.queue → QueuedOk (place t p)
    pub few : length t.misses ≤ S.misses
    pub deep : length t.queue ≤ S.queue
    pub counted : t.dirty_count ≡ dirty_lines t
    pub treed : length t.trees ≡ S.sets
    pub turned : (i : ℕ) → i < length t.trees → tree_fine (is_tree S) S.ways (get_or t.trees i 0) ≡ true

  pub soundly_shape : Soundly → Shape S t
  soundly_shape s = record {
    size = s.size;
    fours = λ l h. (s.lines l h).four;
    few = s.few;
    held = λ e h. (s.entries e h).held;
    short = λ e h. (s.entries e h).short;
    deep = s.deep;
    masked = λ p h. (s.queue p h).masked;
    treed = s.treed;
  }

-- ---- each test with its facts

-- the second test where the first holds
is_then : {a b : Bool} {P Q : Type 0} → Decides a P → (P → Decides b Q) → Decides (a && b) (P × Q)
is_then {a = true} i j = is_as (j (i.fact refl)) (λ q. (i.fact refl, q)) (λ w. w.1)
is_then {a = false} i j = record { fact = λ e. clash e refl; test = λ w. i.test w.0 }

is_iff : {a b : Bool} {P Q : Type 0} → Decides a P → Decides b Q → Decides (same a b) (P ↔ Q)
is_iff {a} {b} i j = record {
  fact = λ e. let q : a ≡ b = same_is a b e in (λ p. j.fact (sym q ∙ i.test p), λ p. i.fact (q ∙ j.test p));
  test = λ f. is_same a b (iff (λ h. j.test (f.0 (i.fact h))) (λ h. i.test (f.1 (j.fact h))));
}

-- a test of a line that lives
is_living : (a : Bool) {b : Bool} {Q : Type 0} → (not a ≡ true → Decides b Q) → Decides (a || b) (not a ≡ true → Q)
is_living a i = is_as (is_else {a = a} (λ v. i (not-no v))) (λ f v. f (not_yes v)) (λ f v. f (not-no v))

module _ (S : Settings) (t : Tables) where
  line_ok_is : (l : ℕ) → Decides (line_ok S t.now l (line t l)) (LineOk S t l)
  unfolding line_ok
  line_ok_is l =
      is_as
      (is_eq (length (line t l).sectors) 4
      ⊓ is_all sector_ok (line t l).sectors empty (λ k h. sector_ok_is (sector t l k).status (sector t l k).mask (sector t l k).readable)
      ⊓ is_le (line t l).cycle t.now
      ⊓ is_le (line t l).taken (line t l).cycle
      ⊓ is_pick {b = wholly_invalid (line t l)} (is_eq (line t l).tag 0 ⊓ is_eq (line t l).cycle 0 ⊓ is_eq (line t l).taken 0) (good_block_is (line t l).tag ⊓ is_eq (set_index S (line t l).tag) (l / S.ways)))
      (λ w. let four = w.0.0.0.0 in record {
        four = four;
        sectors = λ k h. w.0.0.0.1 k (omega arith);
        facts = record { dead = λ v. w.1.0 (no-not v); block = λ v. (w.1.1 (not_yes v)).0; home = λ v. (w.1.1 (not_yes v)).1; past = w.0.0.1; since = w.0.1 };
      })
      (λ r. let four = r.four in let f = r.facts in
      ((((four, λ k h. r.sectors k (omega arith)), f.past), f.since), (λ v. f.dead (ap not v), λ v. (f.block (not-no v), f.home (not-no v)))))

  holds_is : (b m : ℕ) → Decides (holds b (line t m)) (Lives S t m × ((line t m).tag ≡ b))
  holds_is b m = is_flag (not (wholly_invalid (line t m))) ⊓ is_eq (line t m).tag b

  alone_is : (l : ℕ) → l < length t.lines → Decides (alone t.lines (line t l)) (OnlyTag S t l)
  unfolding alone
  alone_is l h =
      is_living (wholly_invalid (line t l)) (λ v. is_as (is_one (holds (line t l).tag) t.lines fresh l h ((holds_is (line t l).tag l).test (v, refl)))
      (λ f m k u e. f m k ((holds_is (line t l).tag m).test (u, e)))
      (λ f m k e. let w = (holds_is (line t l).tag m).fact e in f m k w.0 w.1))

  agrees_is : (l : ℕ) → Decides (reserved_ok t.misses (line t l)) (Agrees S t l)
  unfolding reserved_ok
  agrees_is l =
      is_living (wholly_invalid (line t l)) (λ v. is_every 4 (λ k.
      is_iff (is_test (sym (reserved_number (sector t l k).status)) (is_eq (status_number (sector t l k).status) 1))
      (is_any (entry_for ((line t l).tag + 32 * k)) t.misses no_entry (λ e. is_eq (entry t e).address ((line t l).tag + 32 * k)))))

  entry_ok_is : (e : ℕ) → e < length t.misses → Decides (entry_ok S t (entry t e)) (EntryOk S t e)
  unfolding entry_ok
  entry_ok_is e h =
      is_as
      (is_eq ((entry t e).address % 32) 0
      ⊓ is_lt (entry t e).address (2 ^ 48)
      ⊓ is_any (holds (block_of (entry t e).address)) t.lines fresh (holds_is (block_of (entry t e).address))
      ⊓ is_one (entry_for (entry t e).address) t.misses no_entry e h (eq-eqb (entry t e).address (entry t e).address refl)
      ⊓ (is_le 1 (length (entry t e).tickets) ⊓ is_le (length (entry t e).tickets) S.readers)
      ⊓ is_else {a = (entry t e).sent} (λ v. is_eq (count (reading_of (entry t e).address) t.queue) 1))
      (λ w. let alone : (d : ℕ) → d < length t.misses → (entry t d).address ≡ (entry t e).address → d ≡ e = λ d k q. w.0.0.1 d k (eq-eqb _ _ q) in search depth 8)
      (λ r. let alone : (d : ℕ) → d < length t.misses → entry_for (entry t e).address (entry t d) ≡ true → d ≡ e = λ d k q. r.alone d k (eqb-true _ _ q) in search depth 8)

  unsent_is : (a e : ℕ) → Decides (unsent_for a (entry t e)) (((entry t e).address ≡ a) × ((entry t e).sent ≡ false))
  unsent_is a e = is_eq (entry t e).address a ⊓ (record { fact = λ z. not_yes {b = (entry t e).sent} z; test = λ z. not-no z })

  kind_ok_is : (k : QueueKind) (a : ℕ) (ms : List ℕ) → length ms ≡ 4 → Decides (kind_ok t.misses k a ms) (KindOk S t k a ms)
  kind_ok_is queue.Read a ms four =
      is_as (is_any (unsent_for a) t.misses no_entry (unsent_is a) ⊓ rw four at (is_all (λ m. eqb m 0) ms 0 (λ i h. is_eq (get_or ms i 0) 0)))
      (λ w. record { backed = λ z. w.0; bare = λ z. w.1; block = λ z. absurd (omega arith); dirty = λ z. absurd (omega arith) })
      (λ r. (r.backed refl, r.bare refl))
  kind_ok_is queue.WriteBack b ms four =
      is_as (good_block_is b ⊓ rw four at (is_any (λ m. not (eqb m 0)) ms 0 (λ i. is_not (is_eq (get_or ms i 0) 0))))
      (λ w. record { backed = λ z. absurd (omega arith); bare = λ z. absurd (omega arith); block = λ z. w.0; dirty = λ z. w.1 })
      (λ r. (r.block refl, r.dirty refl))

  queued_ok_is : (x : Queued) → Decides (queued_ok t.misses x) (QueuedOk S t x)
  unfolding queued_ok
  queued_ok_is x =
      let ms : List ℕ = x.masks in
      is_as
      (is_then (is_then (is_eq (length ms) 4) (λ four. rw four at (is_all (λ m. leb m all_ones) ms 0 (λ k h. is_le (get_or ms k 0) all_ones))))
      (λ w. kind_ok_is x.kind x.address ms w.0))
      (λ w. record { masked = w.0.0; small = w.0.1; fitting = w.1 })
      (λ r. ((r.masked, r.small), r.fitting))

  pub soundly_is : Decides (sound S t) (Soundly S t)
  unfolding sound
  soundly_is =
      is_as
      (is_eq (length t.lines) (lines_of S)
      ⊓ is_le t.now last_cycle
      ⊓ is_every (lines_of S) line_ok_is
      ⊓ is_all (alone t.lines) t.lines fresh alone_is
      ⊓ is_all (reserved_ok t.misses) t.lines fresh (λ l h. agrees_is l)
      ⊓ is_all (entry_ok S t) t.misses no_entry entry_ok_is
      ⊓ is_all (queued_ok t.misses) t.queue idle (λ p h. queued_ok_is (place t p))
      ⊓ is_le (length t.misses) S.misses
      ⊓ is_le (length t.queue) S.queue
      ⊓ is_eq t.dirty_count (dirty_lines t)
      ⊓ is_eq (length t.trees) S.sets
      ⊓ is_all (tree_fine (is_tree S) S.ways) t.trees 0 (λ i h. is_flag (tree_fine (is_tree S) S.ways (get_or t.trees i 0))))
      (λ w.
      let size = w.0.0.0.0.0.0.0.0.0.0.0 in
      let alone : (l : ℕ) → l < lines_of S → OnlyTag S t l = λ l h. w.0.0.0.0.0.0.0.0.1 l (omega arith) in
      let agrees : (l : ℕ) → l < lines_of S → Agrees S t l = λ l h. w.0.0.0.0.0.0.0.1 l (omega arith) in
      search depth 14)
      (λ r.
      let alone : (l : ℕ) → l < length t.lines → OnlyTag S t l = λ l h. r.alone l (omega arith) in
      let agrees : (l : ℕ) → l < length t.lines → Agrees S t l = λ l h. r.agrees l (omega arith) in
      search depth 14)
