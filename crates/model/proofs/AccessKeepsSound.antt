-- An accepted access keeps sound tables sound, given what is known of the line that it meets (`Spotted`).
use Rattle.words.proofs.General.{ℕ, ◌+◌, ◌*◌, ◌/◌, ◌%◌, ◌^◌, ◌≤◌, ◌<◌, add-zero, arith, ◌≡◌, refl, sym, ap, ◌∙◌, ◌⊎◌, ◌≢◌, ⊎_elim, Bool, true, false, not, ◌&&◌, ◌||◌, and-false}
use Rattle.words.proofs.General.{and-true, or-true, or-false, List, [], ◌∷◌, ◌++◌, map, length, get_or, length-map, length-set, length-append, get_or-set_same, get_or-set_other, leb}
use Rattle.words.proofs.General.{ltb, eqb, leb-true, leb-false, ltb-true, ltb-false, lt-ltb, eqb-true, eqb-false, eq-eqb, ne_eqb, le-leb, pick, all, any, count, every, within}
use Rattle.words.proofs.General.{and_1, and_2, and_i, or_1, or_2, or_unless, flag, not_yes, not-no, no-yes, clash, by_flag, is_same, In, all_in, in_all, in-any, any-in}
use Rattle.words.proofs.General.{index-count, count_append, any_append, in_append, none_count, each, in_set-same, in_set_other, count_ext, any_ext, in_get_or, all_set, set-some}
use Rattle.words.proofs.General.{in_map, any_map, count_map, recount, every_i, eqb_swap, all_get}
use lib.Bits.{bit_or, or_lt, or_add_and, and_le_l}
use Rattle.model.proofs.Terms.{lines_of, in_range, block_of, sector_index, set_index, line_number, address_of, mask_of, is_read, good_sector, well_formed, Line, Entry, reading, Tables}
use Rattle.model.proofs.Terms.{is_invalid, is_reserved, wholly_invalid, holds, entry_for, is_fetch, empty, fresh, dirty, dirty_lines, all_ones, mask_ok, sector_ok, line_ok, alone}
use Rattle.model.proofs.Terms.{agrees, reserved_ok, reading_of, unsent_for, entry_ok, queued_ok, Spot, is_hit, is_merge, is_miss, on_sector, update, join, on_misses, fetches, queues}
use Rattle.model.proofs.Terms.{places_needed, entry_full, after_access, line_after, takes_line, taken_by}
use Rattle.model.specs.declared.Settings.{Settings}
use Rattle.model.specs.declared.Status.TheVariants.{Reserved}
use Rattle.model.specs.declared.Sector.{Sector}
use Rattle.model.specs.declared.Queued.{Queued}
use Rattle.model.specs.declared.Answer.{Answer}
use Rattle.model.specs.declared.Answer.TheVariants.{Hit, HitReserved, Miss, SectorMiss}
use Rattle.model.specs.declared.Access.{Access}
use Rattle.model.specs.declared.Access.TheVariants.{Read, Write}
use Rattle.model.proofs.Fits.{tree_power}
use Rattle.model.proofs.Answers.{status_reserved}
use Rattle.model.proofs.Turning.{set_below, turned-length, turned-fine}
use Rattle.model.proofs.SoundFacts.{Sound, LineIs, line_whole, EntryIs, entry_whole, mask_small, sector_below, sector_aligned, address_is, block_is, sector_is, lines_are, line_at, tag_aligned, reserved_at, holder_one, entry_at, queued_at_lem, queued_when, queued_unsent, trees_are, few_misses, dirty_count_is}

-- a read that misses: it takes a new entry and queues a read
abbrev pub fetching : Access → Answer → Bool
fetching x n = is_read x && is_miss n

pub formed_good : (x : Access) → well_formed x ≡ true → good_sector (address_of x) ≡ true
formed_good (Read a m k) h = and_1 (good_sector a) (eqb m 0) h
formed_good (Write a m k) h = and_1 (good_sector a) (not (eqb m 0)) h

-- ---- the sector

-- a sound sector is sound after the access
sector_after : (x : Access) (n : Answer) (s : Sector) → well_formed x ≡ true → mask_of x ≤ all_ones → is_merge n ≡ is_reserved s.status
    → sector_ok s ≡ true
    → sector_ok (on_sector x n s) ≡ true
sector_after (Read a m k) n s f b g h =
    by_flag (λ (v : Sector). sector_ok v ≡ true) (is_miss n) _ _ (λ e. rw (mask_small s.status s.mask s.readable h)) (λ e. h)
sector_after (Write a m k) n s f b g h =
    let was : s.mask ≤ all_ones = leb-true s.mask all_ones (mask_small s.status s.mask s.readable h) in
    let low : bit_or s.mask m < 4294967296 = or_lt 32 s.mask m (omega arith) (omega arith) in
    let small : leb (bit_or s.mask m) all_ones ≡ true = le-leb (bit_or s.mask m) all_ones (omega arith) in
    let given = eqb-false m 0 (not_yes (and_2 (good_sector a) (not (eqb m 0)) f)) in
    let some : eqb (bit_or s.mask m) 0 ≡ false = ne_eqb (bit_or s.mask m) 0 (λ z. given (omega (arith, or_add_and s.mask m, and_le_l s.mask m))) in
    by_flag (λ (v : Sector). sector_ok v ≡ true) (is_merge n) _ _
    (λ e. let c : s.status ≡ Reserved = status_reserved s.status (sym g ∙ e) in
    let r : mask_ok Reserved s.mask s.readable ≡ true = rw c at h in
    rw (c, small) (and_2 (leb s.mask all_ones) s.readable r))
    (λ e. rw (small, some) (⊎_elim (λ q. rw q) (λ q. rw q (or-true (s.readable && not (is_invalid s.status)))) (flag (eqb (bit_or s.mask m) all_ones))))

-- and RESERVED if it was, or is fetched now
reserved_after : (x : Access) (n : Answer) (s : Sector) → is_merge n ≡ is_reserved s.status
    → is_reserved (on_sector x n s).status ≡ (is_reserved s.status || fetching x n)
reserved_after (Read a m k) n s g =
    by_flag (λ (v : Sector). is_reserved v.status ≡ (is_reserved s.status || is_miss n)) (is_miss n) _ _ (λ e. rw (e, or-true)) (λ e. rw (e, or-false))
reserved_after (Write a m k) n s g =
    by_flag (λ (v : Sector). is_reserved v.status ≡ (is_reserved s.status || false)) (is_merge n) _ _ (λ e. rw or-false) (λ e. rw (or-false, ← g, e))

-- ---- the entries and the queue

abbrev pub new_entry : ℕ → ℕ → Entry
new_entry a k = record { address = a; sent = false; tickets = k ∷ [] }

join_address : (a k : ℕ) (e : Entry) → (join a k e).address ≡ e.address
join_address a k e = by_flag (λ (v : Entry). v.address ≡ e.address) (entry_for a e) _ _ (λ q. refl) (λ q. refl)

join_sent : (a k : ℕ) (e : Entry) → (join a k e).sent ≡ e.sent
join_sent a k e = by_flag (λ (v : Entry). v.sent ≡ e.sent) (entry_for a e) _ _ (λ q. refl) (λ q. refl)

-- what an access queues, and the entries after it: a read that misses has its own, one that merges joins one, another access leaves them
pub misses_by : (P : Bool → List Queued → List Entry → Type 0) (x : Access) (n : Answer) (es : List Entry)
    → (fetching x n ≡ true → (k : ℕ) → P true (reading (address_of x) ∷ []) (es ++ (new_entry (address_of x) k ∷ [])))
    → ((is_read x && is_merge n) ≡ true → (k : ℕ) → P false [] (map (join (address_of x) k) es)) → P false [] es → P (fetching x n) (fetches x n) (on_misses x n es)
misses_by P (Read a m k) Hit es new joined same = same
misses_by P (Read a m k) HitReserved es new joined same = joined refl k
misses_by P (Read a m k) Miss es new joined same = new refl k
misses_by P (Read a m k) SectorMiss es new joined same = new refl k
misses_by P (Write a m k) n es new joined same = same

module _ (x : Access) (n : Answer) (es : List Entry) (c : ℕ) where
  -- addresses after the access: those before, and the access's where it fetches
  misses_any : any (entry_for c) (on_misses x n es) ≡ (any (entry_for c) es || (fetching x n && eqb (address_of x) c))
  misses_any =
      misses_by (λ f q fs. any (entry_for c) fs ≡ (any (entry_for c) es || (f && eqb (address_of x) c))) x n es
      (λ e k. any_append (entry_for c) es _ ∙ rw (or-false (eqb (address_of x) c)))
      (λ e k. any_map (join (address_of x) k) (entry_for c) es ∙ any_ext _ (entry_for c) es (λ d i. rw (join_address (address_of x) k d)) ∙ sym (or-false _))
      (sym (or-false _))

  misses_count : count (entry_for c) (on_misses x n es) ≡ count (entry_for c) es + pick (fetching x n && eqb (address_of x) c) 1 0
  misses_count =
      misses_by (λ f q fs. count (entry_for c) fs ≡ count (entry_for c) es + pick (f && eqb (address_of x) c) 1 0) x n es
      (λ e k. count_append (entry_for c) es _)
      (λ e k. count_map (join (address_of x) k) (entry_for c) es ∙ count_ext _ (entry_for c) es (λ d i. rw (join_address (address_of x) k d)) ∙ omega arith)
      (omega arith)

  -- reads queued by the access
  fetches_count : count (reading_of c) (fetches x n) ≡ pick (fetching x n && eqb (address_of x) c) 1 0
  fetches_count =
      misses_by (λ f q fs. count (reading_of c) q ≡ pick (f && eqb (address_of x) c) 1 0) x n es (λ e k. rw (eqb_swap c (address_of x))) (λ e k. refl) refl

  -- what was queued has its entry still
  unsent_after : any (unsent_for c) es ≡ true → any (unsent_for c) (on_misses x n es) ≡ true
  unsent_after h =
      misses_by (λ f q fs. any (unsent_for c) fs ≡ true) x n es (λ e k. any_append (unsent_for c) es _ ∙ or_1 (any (unsent_for c) es) _ h)
      (λ e k. any_map (join (address_of x) k) (unsent_for c) es
      ∙ any_ext _ (unsent_for c) es (λ d i. rw (join_address (address_of x) k d, join_sent (address_of x) k d)) ∙ h) h

misses_few : (S : Settings) (x : Access) (n : Answer) (es : List Entry) → length es ≤ S.misses
    → (is_read x && is_miss n && leb S.misses (length es)) ≡ false → length (on_misses x n es) ≤ S.misses
misses_few S x n es h f =
    misses_by (λ g q fs. length fs ≤ S.misses) x n es
    (λ e k. rw length-append (omega (arith, leb-false S.misses (length es) (rw e at f)))) (λ e k. rw length-map h) h

-- and a fetch has its own
fetch_queued : (x : Access) (n : Answer) (es : List Entry) (y : Queued) → In y (fetches x n) → queued_ok (on_misses x n es) y ≡ true
unfolding queued_ok
fetch_queued x n es y =
    let a : ℕ = address_of x in
    misses_by (λ f q fs. In y q → queued_ok fs y ≡ true) x n es
    (λ e k. ⊎_elim (λ q. rw (q, any_append (unsent_for a) es (new_entry a k ∷ []) ∙ or_2 (any (unsent_for a) es) _ (rw (eq-eqb a a refl)))) (λ i. absurd i))
    (λ e k i. absurd i) (λ i. absurd i)

-- a ticket more, where the entry isn't full
join_readers : (S : Settings) (a k : ℕ) (d : Entry) → within 1 S.readers (length d.tickets) ≡ true → entry_full S a d ≡ false
    → within 1 S.readers (length (join a k d).tickets) ≡ true
join_readers S a k d w f =
    by_flag (λ (v : Entry). within 1 S.readers (length v.tickets) ≡ true) (entry_for a d) _ _
    (λ q. let z : leb S.readers (length d.tickets) ≡ false = rw q at f in
    rw length-append (and_i (le-leb 1 (length d.tickets + 1) (omega arith))
    (le-leb (length d.tickets + 1) S.readers (omega (arith, leb-false S.readers (length d.tickets) z)))))
    (λ q. w)

-- ---- the line that an access meets, and the tables that it leaves

abbrev pub spot_number : Settings → Access → Spot → ℕ
spot_number S x p = line_number S (address_of x) p.way

pub record Spotted (S : Settings) (t : Tables) (x : Access) (p : Spot) : Type 0 where
  pub inside : spot_number S x p < length t.lines
  pub tagged : p.line.tag ≡ block_of (address_of x)
  pub four : length p.line.sectors ≡ 4
  pub since : p.line.taken ≤ t.now
  pub sectorly : all sector_ok p.line.sectors ≡ true
  pub own : set_index S (block_of (address_of x)) ≡ spot_number S x p / S.ways
  pub lone : (j : ℕ) → j < length t.lines → j ≢ spot_number S x p → holds (block_of (address_of x)) (get_or t.lines j fresh) ≡ false
  pub agree : (k : ℕ) → k < 4
      → is_reserved (get_or p.line.sectors k empty).status ≡ any (entry_for (block_of (address_of x) + 32 * k)) t.misses
  pub kept : (e : Entry) → In e t.misses
      → (block_of e.address ≡ block_of (address_of x))
      ⊎ ((j : ℕ) × (j < length t.lines) × (j ≢ spot_number S x p) × (holds (block_of e.address) (get_or t.lines j fresh) ≡ true))
  pub merges : is_merge p.answer ≡ is_reserved (get_or p.line.sectors (sector_index (address_of x)) empty).status
  pub used : is_invalid (on_sector x p.answer (get_or p.line.sectors (sector_index (address_of x)) empty)).status ≡ false
  pub backed : (es : List Entry) → all (queued_ok es) p.backs ≡ true
  pub quiet : (c : ℕ) → any (reading_of c) p.backs ≡ false

module _ (S : Settings) (t : Tables) (ok : Sound S t) (x : Access) (formed : well_formed x ≡ true) (small : mask_of x ≤ all_ones)
    (p : Spot) (sp : Spotted S t x p) where
  -- its address, block, sector and line number; the line before at its sector, the line after, the tables after
  abbrev a : ℕ
  a = address_of x

  abbrev b : ℕ
  b = block_of (address_of x)

  abbrev i : ℕ
  i = sector_index (address_of x)

  abbrev n : ℕ
  n = spot_number S x p

  abbrev old : Sector
  old = get_or p.line.sectors i empty

  abbrev new : Line
  new = update i (on_sector x p.answer) t.now (taken_by p.answer t.now p.line.taken) p.line

  abbrev u : Tables
  u = after_access S x p t

  aligned : a % 32 ≡ 0
  aligned = sector_aligned a (formed_good x formed)

  below : i < length p.line.sectors
  below = omega (arith, sp.four, sector_below a)

  -- ---- the lines

  new_used : wholly_invalid new ≡ false
  new_used = set-some (λ (s : Sector). is_invalid s.status) p.line.sectors i _ below sp.used

  new_line : LineIs S t.now n new
  new_line = record {
    four = eq-eqb _ 4 (length-set p.line.sectors i _ ∙ sp.four);
    sectorly = all_set sector_ok p.line.sectors i _ sp.sectorly
        (sector_after x p.answer old formed small sp.merges
        (all_in sector_ok p.line.sectors sp.sectorly (in_get_or p.line.sectors i empty below)));
    past = le-leb t.now t.now (omega arith);
    since = le-leb _ t.now (by_flag (λ (c : ℕ). c ≤ t.now) (takes_line p.answer) _ _ (λ e. omega arith) (λ e. sp.since));
    tagged = rw (new_used, sp.tagged) (and_i (and_i (eq-eqb (b % 128) 0 (omega arith))
        (lt-ltb b (2 ^ 48) (omega (arith, ltb-true a (2 ^ 48) (and_2 (eqb (a % 32) 0) _ (formed_good x formed))))))
        (eq-eqb _ _ sp.own));
  }

  lines_same : length u.lines ≡ lines_of S
  lines_same = length-set t.lines n _ ∙ lines_are S t ok

  taken_lined : every (lines_of S) (λ j. line_ok S t.now j (get_or u.lines j fresh)) ≡ true
  taken_lined = every_i (λ j. line_ok S t.now j (get_or u.lines j fresh)) (lines_of S)
      (λ j h. each (λ j l. line_ok S t.now j l ≡ true) t.lines fresh n new (line_whole S t.now n new new_line)
      (λ j h z. line_whole S t.now j _ (line_at S t ok j h)) j (rw lines_same h))

  -- no other line holds what the new one does
  apart : (c j : ℕ) → j < length t.lines → j ≢ n → holds c new ≡ true → holds c (get_or t.lines j fresh) ≡ false
  apart c j h z e =
      let q : p.line.tag ≡ c = eqb-true p.line.tag c (and_2 (not (wholly_invalid new)) (eqb p.line.tag c) e) in
      ap (λ (c : ℕ). holds c (get_or t.lines j fresh)) (sym q ∙ sp.tagged) ∙ sp.lone j h z

  taken-single : (c j : ℕ) → j < length u.lines → holds c (get_or u.lines j fresh) ≡ true
      → (k : ℕ) → k < length u.lines → holds c (get_or u.lines k fresh) ≡ true → k ≡ j
  taken-single c =
      each (λ j l. holds c l ≡ true → (k : ℕ) → k < length u.lines → holds c (get_or u.lines k fresh) ≡ true → k ≡ j) t.lines fresh n new
      (λ e. each (λ k l. holds c l ≡ true → k ≡ n) t.lines fresh n new (λ f. refl) (λ k h z f. clash f (apart c k h z e)))
      (λ j h z e. each (λ k l. holds c l ≡ true → k ≡ j) t.lines fresh n new (λ f. clash e (apart c j h z f)) (λ k g y f. holder_one S t ok c k j g h f e))

  taken-alone : (j : ℕ) → j < length u.lines → alone u.lines (get_or u.lines j fresh) ≡ true
  unfolding alone
  taken-alone j h =
      let l : Line = get_or u.lines j fresh in
      or_unless (wholly_invalid l) _ (λ e.
      let m : holds l.tag l ≡ true = and_i (not-no e) (eq-eqb l.tag l.tag refl) in
      eq-eqb _ 1 (index-count (holds l.tag) fresh u.lines j h m (taken-single l.tag j h m)))

  -- an address outside the line's new sector has the entries that it had
  other_any : (c : ℕ) → c ≢ a → any (entry_for c) u.misses ≡ any (entry_for c) t.misses
  other_any c z =
      misses_any x p.answer t.misses c
      ∙ rw (ne_eqb a c (λ q. z (sym q)), and-false (fetching x p.answer)) (or-false (any (entry_for c) t.misses))

  -- the sector met is RESERVED before if it has an entry, and after
  old_reserved : is_reserved old.status ≡ any (entry_for a) t.misses
  old_reserved = sp.agree i (sector_below a) ∙ ap (λ (c : ℕ). any (entry_for c) t.misses) (address_is a aligned)

  taken_this : is_reserved (on_sector x p.answer old).status ≡ any (entry_for a) u.misses
  taken_this =
      reserved_after x p.answer old sp.merges
      ∙ ap (λ (c : Bool). c || fetching x p.answer) old_reserved
      ∙ sym (misses_any x p.answer t.misses a ∙ rw (eq-eqb a a refl, and-true (fetching x p.answer)))

  taken_new : (k : ℕ) → k < 4 → is_reserved (get_or new.sectors k empty).status ≡ any (entry_for (b + 32 * k)) u.misses
  taken_new k h =
      ⊎_elim
      (λ e. rw (eqb-true k i e, get_or-set_same p.line.sectors i (on_sector x p.answer old) empty below, address_is a aligned) taken_this)
      (λ e.
      rw (get_or-set_other p.line.sectors i k (on_sector x p.answer old) empty (eqb-false k i e))
      (sp.agree k h ∙ sym (other_any (b + 32 * k) (λ q. eqb-false k i e (sector_is a b k (omega arith) h q)))))
      (flag (eqb k i))

  taken_other : (l : Line) → In l t.lines → holds b l ≡ false → wholly_invalid l ≡ false → (k : ℕ) → k < 4
      → is_reserved (get_or l.sectors k empty).status ≡ any (entry_for (l.tag + 32 * k)) u.misses
  taken_other l m z e k h =
      reserved_at S t ok l m e k h
      ∙ sym (other_any (l.tag + 32 * k) (λ q. clash (and_i (not-no e) (eq-eqb l.tag b (block_is a l.tag k (tag_aligned S t ok l m e) h q))) z))

  taken_reserved : (j : ℕ) → j < length u.lines → reserved_ok u.misses (get_or u.lines j fresh) ≡ true
  unfolding reserved_ok
  taken_reserved =
      each (λ j l. reserved_ok u.misses l ≡ true) t.lines fresh n new
      (or_2 (wholly_invalid new) (every 4 (agrees u.misses new)) (every_i (agrees u.misses new) 4 (λ k h. is_same (is_reserved (get_or new.sectors k empty).status) _ (taken_new k h ∙ rw sp.tagged))))
      (λ j h z. or_unless (wholly_invalid (get_or t.lines j fresh)) _ (λ e. every_i (agrees u.misses (get_or t.lines j fresh)) 4
      (λ k i. is_same _ _ (taken_other (get_or t.lines j fresh) (in_get_or t.lines j fresh h) (sp.lone j h z) e k i))))

  -- ---- the entries and the queue

  -- a fetch finds no entry for its address
  lacking : fetching x p.answer ≡ true → any (entry_for a) t.misses ≡ false
  lacking f =
      sym (sp.merges ∙ old_reserved)
      ∙ not_yes (and_2 (not (is_hit p.answer)) (not (is_merge p.answer)) (and_2 (is_read x) (is_miss p.answer) f))

  no_more : (c : ℕ) → any (entry_for c) t.misses ≡ true → (fetching x p.answer && eqb a c) ≡ false
  no_more c e = no-yes (λ z. clash e
      (ap (λ (v : ℕ). any (entry_for v) t.misses) (sym (eqb-true a c (and_2 (fetching x p.answer) (eqb a c) z)))
      ∙ lacking (and_1 (fetching x p.answer) (eqb a c) z)))

  queue_after : (c : ℕ) → count (reading_of c) u.queue ≡ count (reading_of c) t.queue + pick (fetching x p.answer && eqb a c) 1 0
  queue_after c =
      let more = count_append (reading_of c) t.queue (queues x p) in
      let both = count_append (reading_of c) (fetches x p.answer) p.backs in
      omega (arith, none_count (reading_of c) p.backs (sp.quiet c), fetches_count x p.answer t.misses c)

  -- no read of an address without an entry is queued
  unread : any (entry_for a) t.misses ≡ false → count (reading_of a) t.queue ≡ 0
  unread f =
      none_count (reading_of a) t.queue (no-yes (λ w.
      let (y, m, q) = any-in (reading_of a) t.queue w in
      let c : ℕ = y.address in
      let (e, o, z) = any-in (unsent_for c) t.misses (queued_unsent t.misses y (and_1 (is_fetch y.kind) (eqb a c) q) (queued_at_lem S t ok y m)) in
      clash (in-any (entry_for c) t.misses o (and_1 (entry_for c e) (not e.sent) z))
      (ap (λ (v : ℕ). any (entry_for v) t.misses) (sym (eqb-true a c (and_2 (is_fetch y.kind) (eqb a c) q))) ∙ f)))

  new_holds : any (holds b) u.lines ≡ true
  new_holds = in-any (holds b) u.lines (in_set-same t.lines n new sp.inside) (and_i (not-no new_used) (eq-eqb p.line.tag b sp.tagged))

  held_still : (e : Entry) → In e t.misses → any (holds (block_of e.address)) u.lines ≡ true
  held_still e m =
      ⊎_elim
      (λ q. ap (λ (c : ℕ). any (holds c) u.lines) q ∙ new_holds)
      (λ (j, h, z, f). in-any (holds (block_of e.address)) u.lines (in_set_other t.lines n _ fresh j h z) f)
      (sp.kept e m)

  module _ (some-readers : 1 ≤ S.readers) (merge : (is_read x && is_merge p.answer && any (entry_full S a) t.misses) ≡ false) where
    -- an entry with the address and the mark of one that was there
    old-entry : (d e : Entry) → In d t.misses → e.address ≡ d.address → e.sent ≡ d.sent → within 1 S.readers (length e.tickets) ≡ true → EntryIs S u e
    old-entry d e there at sent readers =
        let c : ℕ = d.address in
        let k : EntryIs S t d = entry_at S t ok d there in
        let m : any (entry_for c) t.misses ≡ true = in-any (entry_for c) t.misses there (eq-eqb c c refl) in
        record {
          good = rw at k.good;
          held = rw at (held_still d there);
          once = rw (at, misses_count x p.answer t.misses c, no_more c m, add-zero) k.once;
          readers = readers;
          queues = rw (at, sent, queue_after c, no_more c m, add-zero) k.queues;
        }

    new-entry : fetching x p.answer ≡ true → (k : ℕ) → EntryIs S u (new_entry a k)
    new-entry f k =
        let none : any (entry_for a) t.misses ≡ false = lacking f in
        record {
          good = formed_good x formed;
          held = new_holds;
          once = rw (misses_count x p.answer t.misses a, f, eq-eqb a a refl, none_count (entry_for a) t.misses none);
          readers = le-leb 1 S.readers some-readers;
          queues = rw (queue_after a, f, eq-eqb a a refl, unread none);
        }

    taken-entry : (e : Entry) → In e u.misses → EntryIs S u e
    taken-entry e =
        let same : In e t.misses → EntryIs S u e = λ i. old-entry e e i refl refl (entry_at S t ok e i).readers in
        misses_by (λ g q fs. In e fs → EntryIs S u e) x p.answer t.misses
        (λ f k i. ⊎_elim same (⊎_elim (λ q. rw q (new-entry f k)) (λ q. absurd q)) (in_append t.misses _ e i))
        (λ merged k i. let (d, o, q) = in_map (join a k) t.misses i in
        let full : entry_full S a d ≡ false = no-yes (λ z. clash (in-any (entry_full S a) t.misses o z) (rw merged at merge)) in
        rw q (old-entry d (join a k d) o (join_address a k d) (join_sent a k d) (join_readers S a k d (entry_at S t ok d o).readers full)))
        same

    taken-queued : (y : Queued) → In y u.queue → queued_ok u.misses y ≡ true
    taken-queued y m =
        ⊎_elim (λ o. queued_when t.misses u.misses y (λ f. unsent_after x p.answer t.misses y.address) (queued_at_lem S t ok y o))
        (λ o. ⊎_elim (fetch_queued x p.answer t.misses y) (all_in (queued_ok u.misses) p.backs (sp.backed u.misses))
        (in_append (fetches x p.answer) p.backs y o))
        (in_append t.queue (queues x p) y m)

    module _ (entry : (is_read x && is_miss p.answer && leb S.misses (length t.misses)) ≡ false)
        (roomy : ltb S.queue (length t.queue + places_needed x p) ≡ false) (range : in_range S ≡ true) where
      pub taken-sound : Sound S (after_access S x p t)
      taken-sound = record {
        sized = eq-eqb (length u.lines) (lines_of S) lines_same;
        time = ok.time;
        lined = taken_lined;
        single = all_get (alone u.lines) u.lines fresh ∙ every_i _ (length u.lines) taken-alone;
        reserve = all_get (reserved_ok u.misses) u.lines fresh ∙ every_i _ (length u.lines) taken_reserved;
        entered = in_all (entry_ok S u) u.misses (λ e m. entry_whole S u e (taken-entry e m));
        lining = in_all (queued_ok u.misses) u.queue taken-queued;
        few = le-leb (length u.misses) S.misses
            (misses_few S x p.answer t.misses (few_misses S t ok) entry);
        short = le-leb (length u.queue) S.queue
            (omega (arith, ltb-false S.queue (length t.queue + places_needed x p) roomy, length-append t.queue (queues x p)));
        counted = eq-eqb u.dirty_count (dirty_lines u) (recount dirty t.lines n (line_after x p t.now) fresh sp.inside (dirty_count_is S t ok));
        treed = eq-eqb (length u.trees) S.sets (turned-length S a p.way t.trees ∙ trees_are S t ok);
        turned = turned-fine S a p.way t.trees (tree_power S range) (rw (trees_are S t ok) (set_below S range a)) ok.turned;
      }
