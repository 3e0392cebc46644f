-- What the probe finds is as `Spotted` says; a tick leaves sound tables sound, and fresh tables are sound.
use Rattle.std.specs.Prelude.{Some, None}
use Rattle.words.proofs.General.{ℕ, ◌+◌, ◌*◌, ◌-◌, ◌^◌, ◌≤◌, ◌<◌, arith, ◌≡◌, refl, sym, ap, ◌∙◌, ◌⊎◌, inl, inr, ◌≢◌, ⊎_elim, Bool, true, false, not, ◌&&◌, ◌||◌, List, [], map}
use Rattle.words.proofs.General.{length, get_or, replicate, length-map, length-replicate, leb, ltb, eqb, leb-true, ltb-false, lt-ltb, eqb-true, eqb-false, eq-eqb, le-leb, all, any}
use Rattle.words.proofs.General.{count, every, same, imp, and_1, and_2, imp_use, same_is, or_no_1, or_no_2, flag, not_yes, no-yes, clash, by_flag, In, all_in, in_all, in-any}
use Rattle.words.proofs.General.{any-in, in_get_or, in_index, get_or-same, all_map, any_map, in_replicate, none_count, every_at, every_i}
use lib.Pow.{pow_pos}
use Rattle.model.proofs.Terms.{in_range, lines_of, is_tree, block_of, sector_index, line_number, address_of, good_block, Line, Entry, Tables, start, refused, is_invalid, is_reserved}
use Rattle.model.proofs.Terms.{is_modified, wholly_invalid, has_reserved, dirty, holds, entry_for, empty, fresh, all_ones, last_cycle, mask_ok, sector_ok, line_ok, alone, reserved_ok}
use Rattle.model.proofs.Terms.{reading_of, entry_ok, queued_ok, tree_fine, Rule, column_of, answer_at, answer_of, ways_of, enough_dirty, candidate, Spot, at, write_back, probe}
use Rattle.model.proofs.Terms.{rule_of, met_in, is_merge, is_miss, on_sector, fetches, tick}
use Rattle.model.specs.declared.Settings.{Settings}
use Rattle.model.specs.declared.Status.{Status}
use Rattle.model.specs.declared.Status.TheVariants.{Modified}
use Rattle.model.specs.declared.Sector.{Sector}
use Rattle.model.specs.declared.Queued.{Queued}
use Rattle.model.specs.declared.Answer.{Answer}
use Rattle.model.specs.declared.Answer.TheVariants.{Miss}
use Rattle.model.specs.declared.Access.{Access}
use Rattle.model.specs.declared.Access.TheVariants.{Read, Write}
use Rattle.model.specs.declared.Refusal.TheVariants.{BadCycle}
use Rattle.model.proofs.SoundFacts.{Sound, LeavesSound, LineIs, line_whole, mask_small, sector_below, sector_aligned, address_is, block_is, lines_are, line_at, four_at, since_at, sectors_at_lem, live_tag_good, reserved_at, holder_one, entry_at, set_of_block, holder_set, holds_used, holds_tag}
use Rattle.model.proofs.Ways.{Finds, first_finds, victim_finds, met_spot, over_spot, probe_by, Sits, way_sits, way_in, line_among, set_of_line}
use Rattle.model.proofs.AccessKeepsSound.{Spotted}
use Rattle.model.proofs.Answers.{by_status, status_reserved, status_modified}
use Rattle.model.proofs.Fits.{ranged}

-- ---- the table of answers

column_below : (x : Access) (r : Bool) → column_of x r < 3
column_below (Read a m k) r = by_flag (λ (n : ℕ). n < 3) r 1 2 (λ e. omega arith) (λ e. omega arith)
column_below (Write a m k) r = omega arith

-- an answer merges at RESERVED alone, and misses at INVALID
abbrev answer_tells : Status → ℕ → Bool
answer_tells c n = same (is_merge (answer_at c n)) (is_reserved c) && imp (is_invalid c) (is_miss (answer_at c n))

answer-tells : (x : Access) (s : Sector) → answer_tells s.status (column_of x s.readable) ≡ true
answer-tells x s =
    every_at (answer_tells s.status) 3 _ (by_status (λ c. every 3 (answer_tells c) ≡ true) refl refl refl refl s.status) (column_below x s.readable)

merge_table : (x : Access) (s : Sector) → is_merge (answer_of x s) ≡ is_reserved s.status
merge_table x s = same_is _ _ (and_1 (same (is_merge (answer_of x s)) (is_reserved s.status)) _ (answer-tells x s))

pub reserved_used : (c : Status) → is_reserved c ≡ true → is_invalid c ≡ false
reserved_used c e = rw (status_reserved c e)

-- the sector of a line that matched isn't INVALID after the access
used_table : (x : Access) (s : Sector) → is_invalid (on_sector x (answer_of x s) s).status ≡ false
used_table (Read a m k) s =
    by_flag (λ (v : Sector). is_invalid v.status ≡ false) (is_miss (answer_of (Read a m k) s)) _ _ (λ e. refl)
    (λ e. no-yes (λ z. clash (imp_use (is_invalid s.status) _ (and_2 (same (is_merge (answer_of (Read a m k) s)) (is_reserved s.status)) _ (answer-tells (Read a m k) s)) z) e))
used_table (Write a m k) s =
    by_flag (λ (v : Sector). is_invalid v.status ≡ false) (is_merge (answer_at s.status 0)) _ _
    (λ e. reserved_used s.status (sym (merge_table (Write a m k) s) ∙ e)) (λ e. refl)

used_miss : (x : Access) (s : Sector) → is_invalid (on_sector x Miss s).status ≡ false
used_miss (Read a m k) s = refl
used_miss (Write a m k) s = refl

-- one place for a read that misses, and what is written back
pub fetches_one : (x : Access) (n : Answer) → length (fetches x n) ≤ 1
fetches_one (Read a m k) n = by_flag (λ (q : List Queued). length q ≤ 1) (is_miss n) _ [] (λ e. omega arith) (λ e. omega arith)
fetches_one (Write a m k) n = omega arith

-- ---- the write-back of a line

pub back_one : (l : Line) → length (write_back l) ≤ 1
back_one l = by_flag (λ (q : List Queued). length q ≤ 1) (dirty l) _ [] (λ e. omega arith) (λ e. omega arith)

dirty_used : (l : Line) → dirty l ≡ true → wholly_invalid l ≡ false
dirty_used l e = no-yes (λ z.
    let (v, m, q) = any-in (λ (v : Sector). is_modified v.status) l.sectors e in
    clash (all_in (λ (v : Sector). is_invalid v.status) l.sectors z m) (ap is_invalid (status_modified v.status q)))

module _ (S : Settings) (t : Tables) (ok : Sound S t) (l : Line) (m : In l t.lines) where
  masks_small : all (λ n. leb n all_ones) (map (λ (v : Sector). v.mask) l.sectors) ≡ true
  masks_small =
      all_map (λ (v : Sector). v.mask) (λ n. leb n all_ones) l.sectors
      ∙ in_all (λ (v : Sector). leb v.mask all_ones) l.sectors
      (λ v n. mask_small v.status v.mask v.readable (all_in sector_ok l.sectors (sectors_at_lem S t ok l m) n))

  dirty-some : dirty l ≡ true → any (λ n. not (eqb n 0)) (map (λ (v : Sector). v.mask) l.sectors) ≡ true
  dirty-some e =
      let (v, n, q) = any-in (λ (v : Sector). is_modified v.status) l.sectors e in
      let h : mask_ok Modified v.mask v.readable ≡ true = rw (status_modified v.status q) at (all_in sector_ok l.sectors (sectors_at_lem S t ok l m) n) in
      let some : not (eqb v.mask 0) ≡ true = search (and_1, and_2) in
      any_map (λ (v : Sector). v.mask) (λ n. not (eqb n 0)) l.sectors ∙ in-any (λ (v : Sector). not (eqb v.mask 0)) l.sectors n some

  back_ok : (es : List Entry) → all (queued_ok es) (write_back l) ≡ true
  unfolding queued_ok
  back_ok es =
      by_flag (λ (q : List Queued). all (queued_ok es) q ≡ true) (dirty l) _ [] (λ e.
      let g : good_block l.tag ≡ true = live_tag_good S t ok l m (dirty_used l e) in
      let c : eqb (length (map (λ (v : Sector). v.mask) l.sectors)) 4 ≡ true = rw length-map (eq-eqb (length l.sectors) 4 (four_at S t ok l m)) in
      rw (g, c, masks_small, dirty-some e)) (λ e. refl)

-- ---- what is found

module _ (S : Settings) (t : Tables) (ok : Sound S t) (some-ways : 1 ≤ S.ways) (x : Access) where
  abbrev a : ℕ
  a = address_of x

  abbrev b : ℕ
  b = block_of (address_of x)

  abbrev ways : List Line
  ways = ways_of S t.lines (address_of x)

  -- a line that holds an entry's block
  holder : (e : Entry) → In e t.misses
      → (j : ℕ) × (j < length t.lines) × (holds (block_of e.address) (get_or t.lines j fresh) ≡ true)
  holder e m =
      let (l, n, q) = any-in (holds (block_of e.address)) t.lines (entry_at S t ok e m).held in
      let (j, h, g) = in_index t.lines fresh l n in
      (j, h, ap (holds (block_of e.address)) g ∙ q)

  holder_kept : (n : ℕ)
      → ((e : Entry) → In e t.misses → holds (block_of e.address) (get_or t.lines n fresh) ≡ true → block_of e.address ≡ b)
      → (e : Entry) → In e t.misses
      → (block_of e.address ≡ b) ⊎ ((j : ℕ) × (j < length t.lines) × (j ≢ n) × (holds (block_of e.address) (get_or t.lines j fresh) ≡ true))
  holder_kept n f e m =
      let (j, h, q) = holder e m in
      ⊎_elim (λ z. inl (f e m (rw (eqb-true j n z) at q))) (λ z. inr (j, h, eqb-false j n z, q)) (flag (eqb j n))

  -- a way that matches
  met : (w : ℕ) → w < length ways → holds b (get_or ways w fresh) ≡ true → Spotted S t x (met_spot x ways w)
  met w h q =
      let s : Sits S t.lines a w = way_sits S t.lines a w h in
      let n : ℕ = line_number S a w in
      let l : Line = get_or ways w fresh in
      let m : In l t.lines = way_in S t.lines a l (in_get_or ways w fresh h) in
      let g : holds b (get_or t.lines n fresh) ≡ true = ap (holds b) (sym s.line) ∙ q in
      let u : wholly_invalid l ≡ false = holds_used b l q in
      let tagged : l.tag ≡ b = holds_tag b l q in
      record {
        inside = s.inside;
        tagged = tagged;
        four = four_at S t ok l m;
        since = since_at S t ok l m;
        sectorly = sectors_at_lem S t ok l m;
        own = set_of_block S a ∙ sym (set_of_line S a w s.low);
        lone = λ j k z. no-yes (λ e. z (holder_one S t ok b j n k s.inside e g));
        agree = λ k z. reserved_at S t ok l m u k z ∙ ap (λ (c : ℕ). any (entry_for (c + 32 * k)) t.misses) tagged;
        kept = holder_kept n (λ e i z. let y : holds (block_of e.address) l ≡ true = ap (holds (block_of e.address)) s.line ∙ z in
            sym (holds_tag (block_of e.address) l y) ∙ tagged);
        merges = merge_table x (get_or l.sectors (sector_index a) empty);
        used = used_table x (get_or l.sectors (sector_index a) empty);
        backed = λ es. refl;
        quiet = λ c. refl;
      }

  -- no way holds the block: no line does
  none-holds : ((l : Line) → In l ways → holds b l ≡ false) → (j : ℕ) → j < length t.lines → holds b (get_or t.lines j fresh) ≡ false
  none-holds f j h = no-yes (λ e. clash e (f (get_or t.lines j fresh) (line_among S t.lines a j some-ways h (holder_set S t ok a j h e))))

  -- a line without a RESERVED sector holds no entry's block
  vacant : (l : Line) → In l t.lines → has_reserved l ≡ false → (e : Entry) → In e t.misses → holds (block_of e.address) l ≡ true → ⊥
  vacant l i f e m z =
      let c : ℕ = e.address in
      let k : ℕ = sector_index c in
      let u : wholly_invalid l ≡ false = holds_used (block_of c) l z in
      let tagged : l.tag ≡ block_of c = holds_tag (block_of c) l z in
      let q : l.tag + 32 * k ≡ c = ap (λ (v : ℕ). v + 32 * k) tagged ∙ address_is c (sector_aligned c (entry_at S t ok e m).good) in
      let r : is_reserved (get_or l.sectors k empty).status ≡ true =
      reserved_at S t ok l i u k (sector_below c) ∙ ap (λ (v : ℕ). any (entry_for v) t.misses) q ∙ in-any (entry_for c) t.misses m (eq-eqb c c refl) in
      clash (in-any (λ (v : Sector). is_reserved v.status) l.sectors
      (in_get_or l.sectors k empty (omega (arith, four_at S t ok l i, sector_below c))) r) f

  module _ (lacks : (j : ℕ) → j < length t.lines → holds b (get_or t.lines j fresh) ≡ false) where
    no-entry : (k : ℕ) → k < 4 → any (entry_for (b + 32 * k)) t.misses ≡ false
    no-entry k h = no-yes (λ z.
        let (e, m, q) = any-in (entry_for (b + 32 * k)) t.misses z in
        let (j, i, g) = holder e m in
        let c : e.address ≡ b + 32 * k = eqb-true e.address (b + 32 * k) q in
        let d : block_of e.address ≡ b = sym (block_is e.address b k (omega arith) h (sym c)) in
        clash g (ap (λ (v : ℕ). holds v (get_or t.lines j fresh)) d ∙ lacks j i))

    -- a victim
    taken-over : (d w : ℕ) → w < length ways → candidate (enough_dirty S d) (get_or ways w fresh) ≡ true → Spotted S t x (over_spot x ways w)
    taken-over d w h q =
        let s : Sits S t.lines a w = way_sits S t.lines a w h in
        let n : ℕ = line_number S a w in
        let l : Line = get_or ways w fresh in
        let m : In l t.lines = way_in S t.lines a l (in_get_or ways w fresh h) in
        record {
          inside = s.inside;
          tagged = refl;
          four = refl;
          since = omega arith;
          sectorly = refl;
          own = set_of_block S a ∙ sym (set_of_line S a w s.low);
          lone = λ j k z. lacks j k;
          agree = λ k z. rw (get_or-same 4 k empty) (sym (no-entry k z));
          kept = holder_kept n (λ e i z. absurd (vacant l m (not_yes (and_1 (not (has_reserved l)) _ q)) e i (ap (holds (block_of e.address)) s.line ∙ z)));
          merges = rw (get_or-same 4 (sector_index a) empty);
          used = used_miss x (get_or (replicate 4 empty) (sector_index a) empty);
          backed = back_ok S t ok l m;
          quiet = λ c. by_flag (λ (q : List Queued). any (reading_of c) q ≡ false) (dirty l) _ [] (λ e. refl) (λ e. refl);
        }

-- ---- a tick, fresh tables

pub tick_leaves_sound : (S : Settings) (t : Tables) → Sound S t → (c : ℕ) → LeavesSound S (tick c t)
unfolding tick entry_ok
tick_leaves_sound S t ok c =
    by_flag (LeavesSound S) (ltb c t.now || ltb last_cycle c) (refused BadCycle) _ (λ e. tt) (λ e.
    let time = le-leb c last_cycle (ltb-false last_cycle c (or_no_2 (ltb c t.now) (ltb last_cycle c) e)) in
    let lined = every_i (λ i. line_ok S c i (get_or t.lines i fresh)) (lines_of S) (λ i h.
    let k : LineIs S t.now i (get_or t.lines i fresh) = line_at S t ok i (rw (lines_are S t ok) h) in
    let past = le-leb (get_or t.lines i fresh).cycle c (omega (arith, leb-true _ t.now k.past, ltb-false c t.now (or_no_1 (ltb c t.now) (ltb last_cycle c) e))) in
    line_whole S c i _ (search)) in
    search)

-- a tree of 0 under every rule
blank_fine : (b : Bool) (ways : ℕ) → tree_fine b ways 0 ≡ true
blank_fine true ways = lt-ltb 0 (2 ^ (ways - 1)) (pow_pos (ways - 1))
blank_fine false ways = refl

pub start_is_sound : (S : Settings) → Sound S (start S)
unfolding line_ok alone reserved_ok
start_is_sound S = record {
  sized = eq-eqb _ (lines_of S) (length-replicate (lines_of S) fresh);
  time = refl;
  lined = every_i (λ i. line_ok S 0 i (get_or (replicate (lines_of S) fresh) i fresh)) (lines_of S) (λ i h. rw (get_or-same (lines_of S) i fresh));
  single = in_all (alone (replicate (lines_of S) fresh)) (replicate (lines_of S) fresh) (λ l m. rw (in_replicate (lines_of S) fresh l m));
  reserve = in_all (reserved_ok []) (replicate (lines_of S) fresh) (λ l m. rw (in_replicate (lines_of S) fresh l m));
  entered = refl;
  lining = refl;
  few = le-leb 0 S.misses (omega arith);
  short = le-leb 0 S.queue (omega arith);
  counted = eq-eqb 0 (count dirty (replicate (lines_of S) fresh)) (sym (none_count dirty (replicate (lines_of S) fresh) (no-yes (λ h. let (l, m, q) = any-in dirty (replicate (lines_of S) fresh) h in clash q (ap dirty (in_replicate (lines_of S) fresh l m))))));
  treed = eq-eqb _ S.sets (length-replicate S.sets 0);
  turned = in_all (tree_fine (is_tree S) S.ways) (replicate S.sets 0) (λ t m. rw (in_replicate S.sets 0 t m) (blank_fine (is_tree S) S.ways));
}

-- what an access meets is as `Spotted` says
module _ (S : Settings) (range : in_range S ≡ true) (t : Tables) (ok : Sound S t) (x : Access) where
  -- under every rule
  pub rule_spotted : (R : Rule) (p : Spot) → probe R S t.dirty_count (ways_of S t.lines (address_of x)) x ≡ at p → Spotted S t x p
  rule_spotted R =
      let some : 1 ≤ S.ways = (ranged S range).ways in
      let b : ℕ = block_of (address_of x) in
      let ways : List Line = ways_of S t.lines (address_of x) in
      probe_by R S t.dirty_count ways x (Spotted S t x)
      (λ w f. let h : Finds (holds b) ways (Some w) = rw f at (first_finds (holds b) ways) in met S t ok some x w h.0 h.1)
      (λ f w v.
      let none : Finds (holds b) ways None = rw f at (first_finds (holds b) ways) in
      let h : Finds (candidate (enough_dirty S t.dirty_count)) ways (Some w) = rw v at (victim_finds R S t.dirty_count ways) in
      taken-over S t ok some x (none-holds S t ok some x none) t.dirty_count w h.0 h.1)

  pub probe_spotted : (p : Spot) → met_in S x t ≡ at p → Spotted S t x p
  probe_spotted p e = rule_spotted (rule_of S t (address_of x)) p e
