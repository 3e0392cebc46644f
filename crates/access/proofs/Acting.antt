-- The act of an accepted access on encoded slices: its line, its entry, its queue places, as `accept` says.
use Rattle.words.proofs.General.{ℕ, ◌+◌, ◌≤◌, ◌<◌, ◌-◌, arith, ◌≡◌, refl, sym, ap, ◌∙◌, inl, inr, ⊎_elim, true, false, ◌&&◌, List, [], ◌∷◌, ◌++◌, map, append-nil}
use Rattle.words.proofs.General.{append_assoc, length, get_or, set, length-set, length-append, get_or-set_same, set-set, eqb-true, eq-eqb, leb-true, pick, any, one, put, and_2, flag}
use Rattle.words.proofs.General.{by_flag, In, all_in, in_append, map-one}
use Rattle.model.proofs.Terms.{lines_of, is_tree, address_of, is_read, block_of, sector_index, set_index, Line, Entry, Tables, entry_for, no_entry, fresh, with_lines, with_misses, with_queue}
use Rattle.model.proofs.Terms.{with_dirty_count, with_trees, Lent, lent, sectors_at, queued_ok, levels, touched_tree, Spot, is_merge, is_miss, on_sector, update, takes_line, join, on_misses}
use Rattle.model.proofs.Terms.{fetches, queues, places_needed, recounted, line_after, turned_for}
use Rattle.model.specs.declared.Settings.{Settings}
use Rattle.model.specs.declared.Queued.{Queued}
use Rattle.model.specs.declared.Access.{Access}
use Rattle.model.specs.declared.Access.TheVariants.{Read, Write}
use Rattle.model.specs.declared.Answer.{Answer}
use Rattle.model.proofs.Fits.{ranged}
use Rattle.model.proofs.SoundFacts.{Sound, parts, lines_are, queued_parts}
use Rattle.model.proofs.AccessKeepsSound.{Spotted}
use Rattle.model.proofs.ProbeFindsSpot.{probe_spotted}
use Rattle.model.proofs.Turning.{set_below}
use Rattle.layout.specs.declared.Layout.{Layout}
use Rattle.layout.specs.Layout.{LaysOut}
use Rattle.layout.proofs.ByBlocks.{ByBlocks, is_stands, now_stands}
use Rattle.layout.proofs.Lines.{taken_as, line_stands, taken_stands}
use Rattle.tables.proofs.Misses.{with_ticket, unsent, append-stands, new_entry_stands}
use Rattle.tables.proofs.Queue.{push_stands}
use Rattle.probe.specs.declared.Decision.{Decision}
use Rattle.access.specs.Plan.{Met, entry_index, ticket_of}
use Rattle.access.specs.Written.{sectors_for, sectors_after, misses_written, entry_written, queue_written, line_left, line_taken, set_turned}
use Rattle.access.specs.declared.plan.MissPlan.{MissPlan}
use Rattle.access.specs.declared.plan.MissPlan.TheVariants.{Stays, Joins, Starts}
use Rattle.access.proofs.Plans.{index_found, no_other_entry, merged_entry, entry_once}
use Rattle.access.proofs.PlanTests.{shows, answer_is, Means}
use Rattle.access.proofs.Lines.{stands, sectors_met, was_dirty}
use Rattle.tables.specs.Raw.{dirty_at}
use Rattle.layout.proofs.DirtyCount.{dirty_count_stands, dirty_count_at_lem, tree_stands, tree_at_lem}
use Rattle.layout.specs.Sectors.{some_modified}

-- ---- what becomes of the miss table and the queue, by the flags

misses_are : (x : Access) (n : Answer) (es : List Entry)
    → on_misses x n es ≡ pick (is_read x && is_merge n) (map (join (address_of x) (ticket_of x)) es) (pick (is_read x && is_miss n) (es ++ (unsent (address_of x) (ticket_of x) ∷ [])) es)
misses_are (Read a m k) n es = refl
misses_are (Write a m k) n es = refl

fetched_four : (x : Access) (n : Answer) (y : Queued) → In y (fetches x n) → length y.masks ≡ 4
fetched_four (Read a m k) n y j = by_flag (λ (q : List Queued). In y q → length y.masks ≡ 4) (is_miss n) _ _ (λ e. ⊎_elim (λ q. rw q) (λ i. absurd i)) (λ e i. absurd i) j
fetched_four (Write a m k) n y j = absurd j

module _ (S : Settings) {longs words marks : List ℕ} (x : Access) (d : Decision) (t : Tables) (p : Spot) (m : Met S (lent longs words marks) x d t p) {place : Layout} (pl : LaysOut S place) where
  ok : Sound S t
  ok = parts S t m.is.soundly

  pub spot : Spotted S t x p
  spot = probe_spotted S m.is.range t ok x p m.probed

  pub sized : length t.lines ≡ lines_of S
  sized = lines_are S t ok

  -- ---- the line

  -- the line that the access leaves, and what it is before the cycle at which it was taken is written
  abbrev pub new_line : Line
  new_line = line_after x p t.now

  abbrev pub left_line : Line
  left_line = update (sector_index (address_of x)) (on_sector x p.answer) t.now (get_or t.lines d.line fresh).taken p.line

  left_is : sectors_after x d (sectors_for d.meeting (sectors_at S words marks d.line)) ≡ new_line.sectors
  left_is = rw (← sectors_met S x d t p m, ← answer_is S x d t p m)

  -- the dirty count that it leaves
  abbrev pub new_count : ℕ
  new_count = recounted (get_or t.lines d.line fresh) new_line t.dirty_count

  count_is : get_or words place.dirty 0 + one (some_modified new_line.sectors) - one (dirty_at marks d.line) ≡ new_count
  count_is = rw (dirty_count_at_lem S t (is_stands m.is) pl, was_dirty S t m.is d.line m.below)

  pub line_left_lem : {L₁ : Lent} → L₁ ≡ line_left place (lent longs words marks) d.line (block_of (address_of x)) (sectors_after x d (sectors_for d.meeting (sectors_at S words marks d.line)))
      → ByBlocks S L₁.longs L₁.words L₁.marks (with_dirty_count new_count (with_lines (set t.lines d.line left_line) t))
  line_left_lem e =
      let b = m.below in
      let s = sized in
      let four : length new_line.sectors ≡ 4 = simp length-set spot.four in
      let e₁ = rw (left_is, ← spot.tagged, count_is) at e in
      let counted = dirty_count_stands S t (is_stands m.is) pl new_count refl in
      let time = sym (now_stands counted) in
      let e₂ = rw (sym time) at e₁ in
      line_stands S (with_dirty_count new_count t) counted pl sized d.line (omega arith) left_line four refl
      (ap (λ (L : Lent). L.longs) e₂, ap (λ (L : Lent). L.words) e₂, ap (λ (L : Lent). L.marks) e₂)

  -- ---- when it was taken

  pub line-written : (L₀ : Lent) {L₁ : Lent} → L₀ ≡ line_left place (lent longs words marks) d.line (block_of (address_of x)) (sectors_after x d (sectors_for d.meeting (sectors_at S words marks d.line)))
      → L₁ ≡ line_taken place d.answer d.line L₀
      → ByBlocks S L₁.longs L₁.words L₁.marks (with_dirty_count new_count (with_lines (set t.lines d.line new_line) t))
  line-written L₀ e f =
      let lefts : Tables = with_dirty_count new_count (with_lines (set t.lines d.line left_line) t) in
      let left : ByBlocks S L₀.longs L₀.words L₀.marks lefts = line_left_lem e in
      let long : length lefts.lines ≡ lines_of S = length-set t.lines d.line left_line ∙ sized in
      ⊎_elim
      (λ (y : takes_line p.answer ≡ true).
      let g = rw (← answer_is S x d t p m, y) at f in
      let h = taken_stands S lefts left pl long d.line (rw long m.below) t.now (ap (λ (n : ℕ). put L₀.words (place.taken + d.line) (n ∷ [])) (now_stands left)) in
      let there : get_or (set t.lines d.line left_line) d.line fresh ≡ left_line = get_or-set_same t.lines d.line left_line fresh (omega (arith, sized, m.below)) in
      let k : set (set t.lines d.line left_line) d.line (taken_as t.now left_line) ≡ set t.lines d.line new_line =
      set-set t.lines d.line left_line _ ∙ rw y in
      rw g (rw (there, k) at h))
      -- a line that no MISS takes stays as taken as it was
      (λ (n : takes_line p.answer ≡ false).
      let g = rw (← answer_is S x d t p m, n) at f in
      let k : left_line ≡ new_line = rw (n, stands S x d t p m n) in
      rw (g, ← k) left)
      (flag (takes_line p.answer))

  -- ---- the tree of its set

  abbrev pub trees_new : List ℕ
  trees_new = turned_for S (address_of x) p.way t.trees

  pub set-turned : (u : Tables) → u.trees ≡ t.trees → (L₁ : Lent) {L₂ : Lent} → ByBlocks S L₁.longs L₁.words L₁.marks u
      → L₂ ≡ set_turned S place (set_index S (address_of x)) d.way L₁
      → ByBlocks S L₂.longs L₂.words L₂.marks (with_trees trees_new u)
  set-turned u same L₁ h e =
      let treed : length u.trees ≡ S.sets = ap length same ∙ eqb-true (length t.trees) S.sets ok.treed in
      let i : ℕ = set_index S (address_of x) in
      let inside : i < S.sets = set_below S m.is.range (address_of x) in
      ⊎_elim
      (λ (y : is_tree S ≡ true).
      let w : touched_tree (get_or L₁.words (place.trees + i) 0) (levels S.ways) d.way ≡ touched_tree (get_or t.trees i 0) (levels S.ways) p.way =
      rw (tree_at_lem S u h pl treed i inside, same, (shows S x d t p m).way) in
      let k = tree_stands S u h pl treed i inside _ (ap (λ (n : ℕ). put L₁.words (place.trees + i) (n ∷ [])) w) in
      rw (rw y at e, y) (rw same at k))
      (λ (n : is_tree S ≡ false). rw (rw n at e, n, ← same) h)
      (flag (is_tree S))

  -- ---- the miss table

  -- a ticket joins one entry, and no other is for the address
  join_one : (is_read x && is_merge p.answer) ≡ true → (e : ℕ) → e ≡ entry_index (address_of x) t.misses → (k : ℕ)
      → (e < length t.misses) × (map (join (address_of x) k) t.misses ≡ set t.misses e (with_ticket k (get_or t.misses e no_entry)))
  join_one merges e is k =
      let h : any (entry_for (address_of x)) t.misses ≡ true = merged_entry S m.is.range t ok x m.formed p m.probed (and_2 (is_read x) (is_merge p.answer) merges) in
      let w = index_found (address_of x) t.misses h in
      let inside : e < length t.misses = rw is w.0 in
      let here : entry_for (address_of x) (get_or t.misses e no_entry) ≡ true = eq-eqb _ (address_of x) (rw is w.1) in
      let other = no_other_entry (address_of x) t.misses (entry_once S t ok (address_of x) h) e inside here in
      (inside, map-one (join (address_of x) k) no_entry t.misses e inside (λ j b n. rw (other j b n)) ∙ rw here)

  few : length t.misses ≤ S.misses
  few = leb-true (length t.misses) S.misses ok.few

  pub misses_written_lem : (ls : List Line) (k : ℕ) (ts : List ℕ) (L₁ L₂ : Lent) → ByBlocks S L₁.longs L₁.words L₁.marks (with_trees ts (with_dirty_count k (with_lines ls t)))
      → (c : MissPlan) → Means S x p t c → L₂ ≡ misses_written place S.readers c (address_of x) (ticket_of x) L₁
      → ByBlocks S L₂.longs L₂.words L₂.marks (with_misses (on_misses x p.answer t.misses) (with_trees ts (with_dirty_count k (with_lines ls t))))
  misses_written_lem ls k ts L₁ L₂ h Stays w q = rw (q, misses_are x p.answer t.misses, w.merges, w.misses refl) h
  misses_written_lem ls k ts L₁ L₂ h (Joins i n) w q =
      let j = join_one w.0.merges i w.1 (ticket_of x) in
      rw (q, misses_are x p.answer t.misses, w.0.merges, j.1)
      (append-stands S (with_trees ts (with_dirty_count k (with_lines ls t))) h pl few i j.0 (ticket_of x) n w.2 w.3 (refl, refl))
  misses_written_lem ls k ts L₁ L₂ h (Starts i) w q =
      rw (q, misses_are x p.answer t.misses, w.0.merges, w.0.misses refl)
      (new_entry_stands S (with_trees ts (with_dirty_count k (with_lines ls t))) h pl few (address_of x) (ticket_of x) i w.1 w.2 (ranged S m.is.range).reader (refl, refl, refl))

  -- ---- the queue

  -- each entry has four masks
  four_masks : (y : Queued) → In y (queues x p) → length y.masks ≡ 4
  four_masks y i =
      ⊎_elim (fetched_four x p.answer y) (λ j. (queued_parts [] y (all_in (queued_ok []) p.backs (spot.backed []) j)).0) (in_append (fetches x p.answer) p.backs y i)

  entries_written : (xs : List Queued) → ((y : Queued) → In y xs → length y.masks ≡ 4) → (u : Tables) (L : Lent) (n : ℕ)
      → ByBlocks S L.longs L.words L.marks u → (1 ≤ length xs → n ≡ length u.queue) → length u.queue + length xs ≤ S.queue
      → ByBlocks S (queue_written place n xs L).longs (queue_written place n xs L).words (queue_written place n xs L).marks (with_queue (u.queue ++ xs) u)
  entries_written [] four u L n h e r = rw (append-nil u.queue) h
  entries_written (y ∷ ys) four u L n h e r =
      let here : n ≡ length u.queue = e (omega arith) in
      let v : Tables = with_queue (u.queue ++ (y ∷ [])) u in
      let longer : length (u.queue ++ (y ∷ [])) ≡ length u.queue + 1 = length-append u.queue (y ∷ []) in
      let s : ByBlocks S (entry_written place n y L).longs (entry_written place n y L).words (entry_written place n y L).marks v =
      push_stands S u h pl (omega arith) y n (four y (inl refl)) here (omega arith) (refl, refl, refl) in
      let w = entries_written ys (λ z m. four z (inr m)) v (entry_written place n y L) (n + 1) s (λ some. omega arith) (omega arith) in
      rw (append_assoc u.queue (y ∷ []) ys) at w

  pub queue_written_lem : (u : Tables) → u.queue ≡ t.queue → (L₂ : Lent) {L₃ : Lent} {n : ℕ} → ByBlocks S L₂.longs L₂.words L₂.marks u
      → (1 ≤ places_needed x p → n ≡ length t.queue) → length t.queue + places_needed x p ≤ S.queue → L₃ ≡ queue_written place n (queues x p) L₂
      → ByBlocks S L₃.longs L₃.words L₃.marks (with_queue (t.queue ++ queues x p) u)
  queue_written_lem u same L₂ {n = n} h e room q = rw (q, ← same) (entries_written (queues x p) four_masks u L₂ n h (λ some. e some ∙ ap length (sym same)) (rw (ap length same) room))

-- ---- room

pub join-inside : (S : Settings) {L : Lent} (x : Access) (d : Decision) (t : Tables) (p : Spot) → Met S L x d t p → (e : ℕ) → (is_read x && is_merge p.answer) ≡ true
    → e ≡ entry_index (address_of x) t.misses → e < length t.misses
join-inside S x d t p m e merges is =
    rw is (index_found (address_of x) t.misses
    (merged_entry S m.is.range t (parts S t m.is.soundly) x m.formed p m.probed (and_2 (is_read x) (is_merge p.answer) merges))).0
