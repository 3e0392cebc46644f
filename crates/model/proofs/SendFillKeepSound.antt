-- Send and fill keep sound tables sound.
use Rattle.words.proofs.General.{ℕ, ◌+◌, ◌*◌, ◌%◌, ◌<◌, ◌-◌, arith, ◌≡◌, refl, sym, ap, ◌∙◌, inr, ◌≢◌, ⊎_elim, Bool, true, false, not, ◌&&◌, not-and_self, List, [], ◌∷◌, map}
use Rattle.words.proofs.General.{length, get_or, length-map, length-set, List·getD-map, set, get_or-set_same, get_or-set_other, eqb, leb, eqb-true, eqb-false, eq-eqb, ne_eqb, le-leb}
use Rattle.words.proofs.General.{all, any, count, keep, every, one, and_1, and_2, and_i, or_unless, flag, not_yes, not-no, no-yes, clash, by_flag, pick_both, is_same, In, all_in}
use Rattle.words.proofs.General.{in_all, in-any, any-in, in-keep, keep-in, keep-le, not_twice, count_ext, any_ext, count_keep, any_keep, in_get_or, all_set, any_set, set-some}
use Rattle.words.proofs.General.{map_in, in_map, any_map, all_map, count_map, in_index, recount, any-one, map-one, every_i}
use Rattle.model.proofs.Terms.{lines_of, block_of, sector_index, Line, Entry, Tables, Outcome, refused, done, is_invalid, is_reserved, wholly_invalid, holds, entry_for, is_fetch}
use Rattle.model.proofs.Terms.{empty, fresh, is_modified, dirty, mask_ok, sector_ok, line_ok, alone, reserved_ok, reading_of, unsent_for, entry_ok, queued_ok, mark, marked_for}
use Rattle.model.proofs.Terms.{marked, sent_event, after_send, send_from, send, arrived, fill_line, others, after_fill, sent_for, fill, soiled}
use Rattle.model.specs.declared.Settings.{Settings}
use Rattle.model.specs.declared.Status.{Status}
use Rattle.model.specs.declared.Status.TheVariants.{Valid, Modified}
use Rattle.model.specs.declared.Sector.{Sector}
use Rattle.model.specs.declared.QueueKind.{QueueKind}
use Rattle.model.specs.declared.QueueKind.TheVariants as queue
use Rattle.model.specs.declared.Queued.{Queued}
use Rattle.model.specs.declared.Refusal.{Refusal}
use Rattle.model.specs.declared.Refusal.TheVariants.{NotSent, QueueEmpty}
use Rattle.model.proofs.SoundFacts.{Sound, LeavesSound, LineIs, line_whole, EntryIs, entry_whole, mask_small, sector_aligned, address_is, block_is, sector_is, lines_are, line_at, four_at, tag_aligned, reserved_at, entry_at, entry-one, queued_at_lem, unsent_once, queued_when, sectors_at_lem, holder_one, few_queued, few_misses, dirty_count_is, holds_used, holds_tag}
use Rattle.model.proofs.Answers.{status_modified}

-- ---- send

mark_address : (a : ℕ) (e : Entry) → (mark a e).address ≡ e.address
mark_address a e = by_flag (λ (v : Entry). v.address ≡ e.address) (entry_for a e) _ _ (λ q. refl) (λ q. refl)

-- the same addresses after a send
marked_any : (k : QueueKind) (b : ℕ) (es : List Entry) (a : ℕ) → any (entry_for a) (marked_for k b es) ≡ any (entry_for a) es
marked_any queue.Read b es a = any_map (mark b) (entry_for a) es ∙ any_ext (λ e. entry_for a (mark b e)) (entry_for a) es (λ e m. rw (mark_address b e))
marked_any queue.WriteBack b es a = refl

marked_count : (k : QueueKind) (b : ℕ) (es : List Entry) (a : ℕ) → count (entry_for a) (marked_for k b es) ≡ count (entry_for a) es
marked_count queue.Read b es a = count_map (mark b) (entry_for a) es ∙ count_ext (λ e. entry_for a (mark b e)) (entry_for a) es (λ e m. rw (mark_address b e))
marked_count queue.WriteBack b es a = refl

pub marked-length : (k : QueueKind) (b : ℕ) (es : List Entry) → length (marked_for k b es) ≡ length es
marked-length queue.Read b es = length-map es (mark b)
marked-length queue.WriteBack b es = refl

-- each entry after a send of one of kind k for b, by the one that it was before
marked_by : (P : Entry → Type 0) (k : QueueKind) (b : ℕ) (es : List Entry)
    → ((d e : Entry) → In d es → e.address ≡ d.address → e.tickets ≡ d.tickets → (e.sent ≡ false → (d.sent ≡ false) × ((is_fetch k && eqb d.address b) ≡ false)) → P e)
    → (e : Entry) → In e (marked_for k b es) → P e
marked_by P queue.Read b es f e m =
    let (d, n, q) = in_map (mark b) es m in
    rw q (by_flag P (entry_for b d) _ d (λ p. f d _ n refl refl (λ h. clash refl h)) (λ p. f d d n refl refl (λ h. (h, p))))
marked_by P queue.WriteBack b es f e m = f e e m refl refl (λ h. (h, refl))

-- an unsent entry that the head doesn't name is still there
unsent_still : (k : QueueKind) (b : ℕ) (es : List Entry) (a : ℕ) (d : Entry) → In d es → unsent_for a d ≡ true → (is_fetch k && eqb a b) ≡ false
    → any (unsent_for a) (marked_for k b es) ≡ true
unsent_still queue.Read b es a d n u h =
    let s : d.address ≡ a = eqb-true d.address a (and_1 (entry_for a d) (not d.sent) u) in
    let k : entry_for b d ≡ false = rw s h in
    in-any (unsent_for a) (map (mark b) es) (map_in (mark b) es d n) (rw k u)
unsent_still queue.WriteBack b es a d n u h = in-any (unsent_for a) es n u

module _ (S : Settings) (t : Tables) (x : Queued) (q : List Queued) (at : t.queue ≡ x ∷ q) (ok : Sound S t) where
  sent_entry : (e : Entry) → In e (marked x t.misses) → EntryIs S (after_send x q t) e
  sent_entry =
      marked_by (EntryIs S (after_send x q t)) x.kind x.address t.misses (λ d e there address tickets unsent.
      let k : EntryIs S t d = entry_at S t ok d there in
      record {
        good = rw address k.good;
        held = rw address k.held;
        once = rw (address, marked_count x.kind x.address t.misses d.address) k.once;
        readers = rw tickets k.readers;
        queues = or_unless e.sent _ (λ h.
            let c : count (reading_of d.address) (x ∷ q) ≡ 1 = rw at at (unsent_once S t ok d there (unsent h).0) in
            rw address (eq-eqb (count (reading_of d.address) q) 1 (rw (unsent h).1 at c)));
      })

  sent_queued : (y : Queued) → In y q → queued_ok (marked x t.misses) y ≡ true
  sent_queued y m =
      let a : ℕ = y.address in
      queued_when t.misses (marked x t.misses) y (λ f h.
      let (d, n, u) = any-in (unsent_for a) t.misses h in
      let s : d.address ≡ a = eqb-true d.address a (and_1 (entry_for a d) (not d.sent) u) in
      let c : count (reading_of a) (x ∷ q) ≡ 1 = rw (s, at) at (unsent_once S t ok d n (not_yes (and_2 (entry_for a d) (not d.sent) u))) in
      unsent_still x.kind x.address t.misses a d n u (not_twice (reading_of a) x q c m (rw (f, eq-eqb a a refl))))
      (queued_at_lem S t ok y (rw at (inr m)))

  pub sent_sound : Sound S (after_send x q t)
  unfolding reserved_ok
  sent_sound =
      let reserve = in_all (reserved_ok (marked x t.misses)) t.lines
      (λ l m. simp (marked_any x.kind x.address t.misses) (all_in (reserved_ok t.misses) t.lines ok.reserve m)) in
      let entered = in_all (entry_ok S (after_send x q t)) (marked x t.misses) (λ e m. entry_whole S (after_send x q t) e (sent_entry e m)) in
      let lining = in_all (queued_ok (marked x t.misses)) q sent_queued in
      let few : leb (length (marked x t.misses)) S.misses ≡ true = rw (marked-length x.kind x.address t.misses) ok.few in
      let short = le-leb (length q) S.queue (omega (arith, ap length at, few_queued S t ok)) in
      search

-- a send is refused, or takes the head
pub send-cases : (t : Tables) (P : Outcome Tables → Type 0) → ((n : Refusal) → P (refused n))
    → ((x : Queued) (q : List Queued) → t.queue ≡ x ∷ q → P (done (sent_event x ∷ []) (after_send x q t))) → P (send t)
unfolding send
send-cases t P no_call made = go t.queue refl
  where
    go : (q : List Queued) → t.queue ≡ q → P (send_from q t)
    go [] e = no_call QueueEmpty
    go (x ∷ q) e = made x q e

pub send_leaves_sound : (S : Settings) (t : Tables) → Sound S t → LeavesSound S (send t)
send_leaves_sound S t ok = send-cases t (LeavesSound S) (λ n. tt) (λ x q e. sent_sound S t x q e ok)

-- ---- fill

arrived_ok : (s : Sector) → sector_ok s ≡ true → sector_ok (arrived s) ≡ true
arrived_ok s h =
    by_flag (λ (c : Status). mask_ok c s.mask true ≡ true) (eqb s.mask 0) Valid Modified
    (λ e. rw e) (λ e. rw (e, mask_small s.status s.mask s.readable h))

-- a MODIFIED sector has a mask that isn't 0, so a fill leaves it MODIFIED
arrived-dirty : (s : Sector) → sector_ok s ≡ true → is_modified s.status ≡ true → is_modified (arrived s).status ≡ true
arrived-dirty s k q =
    let h : mask_ok Modified s.mask s.readable ≡ true = rw (status_modified s.status q) at k in
    let z : not (eqb s.mask 0) ≡ true = search (and_1, and_2) in
    rw (not_yes {b = eqb s.mask 0} z)

-- a fill leaves every other line, and the tag of the one
module _ (a : ℕ) (l : Line) where
  pub fill_kept : holds (block_of a) l ≡ false → fill_line a l ≡ l
  unfolding fill_line
  fill_kept e = rw e

  fill_tag : (fill_line a l).tag ≡ l.tag
  unfolding fill_line
  fill_tag = by_flag (λ (m : Line). m.tag ≡ l.tag) (holds (block_of a) l) _ _ (λ e. refl) (λ e. refl)

module _ (a : ℕ) (l : Line) (four : length l.sectors ≡ 4) where
  abbrev old : Sector
  old = get_or l.sectors (sector_index a) empty

  old_ok : all sector_ok l.sectors ≡ true → sector_ok old ≡ true
  old_ok ok = all_in sector_ok l.sectors ok (in_get_or l.sectors (sector_index a) empty (omega arith))

  used_still : all (λ (s : Sector). is_invalid s.status) (set l.sectors (sector_index a) (arrived old)) ≡ false
  used_still = set-some (λ (s : Sector). is_invalid s.status) l.sectors (sector_index a) (arrived old) (omega arith) (pick_both (λ (c : Status). is_invalid c ≡ false) (eqb old.mask 0) refl refl)

  fill_unused : wholly_invalid (fill_line a l) ≡ wholly_invalid l
  unfolding fill_line
  fill_unused =
      by_flag (λ (m : Line). wholly_invalid m ≡ wholly_invalid l) (holds (block_of a) l) _ _ (λ e. used_still ∙ sym (holds_used (block_of a) l e)) (λ e. refl)

  -- it is dirty still
  fill-dirty : all sector_ok l.sectors ≡ true → dirty l ≡ true → dirty (fill_line a l) ≡ true
  unfolding fill_line
  fill-dirty ok h =
      by_flag (λ (m : Line). dirty m ≡ true) (holds (block_of a) l) _ _
      (λ e. any_set (λ (s : Sector). is_modified s.status) l.sectors (sector_index a) (arrived old) empty (arrived-dirty old (old_ok ok)) h) (λ e. h)

  fill_holds : (b : ℕ) → holds b (fill_line a l) ≡ holds b l
  fill_holds b = rw (fill_unused, fill_tag a l)

  fill-line : (S : Settings) (now i : ℕ) → LineIs S now i l → LineIs S now i (fill_line a l)
  unfolding fill_line
  fill-line S now i h =
      by_flag (LineIs S now i) (holds (block_of a) l) _ l (λ e. record {
        four = rw length-set h.four;
        sectorly = all_set sector_ok l.sectors (sector_index a) (arrived old) h.sectorly (arrived_ok old (old_ok h.sectorly));
        past = h.past;
        since = h.since;
        tagged = rw used_still (rw (holds_used (block_of a) l e) at h.tagged);
      }) (λ e. h)

  -- another sector than the address's is left
  fill_other : (k : ℕ) → a % 32 ≡ 0 → l.tag + 32 * k ≢ a → get_or (fill_line a l).sectors k empty ≡ get_or l.sectors k empty
  unfolding fill_line
  fill_other k g n =
      by_flag (λ (m : Line). get_or m.sectors k empty ≡ get_or l.sectors k empty) (holds (block_of a) l) _ _
      (λ e. get_or-set_other l.sectors (sector_index a) k _ empty
      (λ q. n (rw (q, holds_tag (block_of a) l e) (address_is a g))))
      (λ e. refl)

  -- the address's is RESERVED no more
  fill_this : (k : ℕ) → wholly_invalid l ≡ false → l.tag % 128 ≡ 0 → k < 4 → l.tag + 32 * k ≡ a
      → is_reserved (get_or (fill_line a l).sectors k empty).status ≡ false
  unfolding fill_line
  fill_this k u g h e =
      let s : holds (block_of a) l ≡ true = and_i (not-no u) (eq-eqb l.tag (block_of a) (block_is a l.tag k g h e)) in
      by_flag (λ (m : Line). is_reserved (get_or m.sectors k empty).status ≡ false) (holds (block_of a) l) _ _
      (λ z. rw (sector_is a l.tag k g h e, get_or-set_same l.sectors (sector_index a) (arrived old) empty (omega arith)) (pick_both (λ (c : Status). is_reserved c ≡ false) (eqb old.mask 0) refl refl))
      (λ z. clash s z)

get_or-fill : (a : ℕ) (ls : List Line) (i : ℕ) → get_or (map (fill_line a) ls) i fresh ≡ fill_line a (get_or ls i fresh)
unfolding fill_line
get_or-fill a ls i = List·getD-map (fill_line a) ls i fresh

module _ (S : Settings) (t : Tables) (ok : Sound S t) (d : Entry) (m : In d t.misses) (s : d.sent ≡ true) where
  abbrev a : ℕ
  a = d.address

  abbrev filled : List Line
  filled = map (fill_line a) t.lines

  abbrev left : List Entry
  left = keep (others a) t.misses

  filled_lined : every (lines_of S) (λ i. line_ok S t.now i (get_or filled i fresh)) ≡ true
  filled_lined =
      every_i (λ i. line_ok S t.now i (get_or filled i fresh)) (lines_of S) (λ i h.
      let k : LineIs S t.now i (get_or t.lines i fresh) = line_at S t ok i (rw (lines_are S t ok) h) in
      rw (get_or-fill a t.lines i)
      (line_whole S t.now i (fill_line a (get_or t.lines i fresh))
      (fill-line a (get_or t.lines i fresh) (eqb-true (length (get_or t.lines i fresh).sectors) 4 k.four) S t.now i k)))

  filled_count : (b : ℕ) → count (holds b) filled ≡ count (holds b) t.lines
  filled_count b =
      count_map (fill_line a) (holds b) t.lines
      ∙ count_ext (λ l. holds b (fill_line a l)) (holds b) t.lines (λ l n. fill_holds a l (four_at S t ok l n) b)

  filled_held : (b : ℕ) → any (holds b) filled ≡ any (holds b) t.lines
  filled_held b =
      any_map (fill_line a) (holds b) t.lines
      ∙ any_ext (λ l. holds b (fill_line a l)) (holds b) t.lines (λ l n. fill_holds a l (four_at S t ok l n) b)

  filled-alone : (l : Line) → In l t.lines → alone filled (fill_line a l) ≡ true
  unfolding alone
  filled-alone l n =
      rw (fill_unused a l (four_at S t ok l n), fill_tag a l, filled_count l.tag)
      (all_in (alone t.lines) t.lines ok.single n)

  -- entries at another address are kept
  kept : (b : ℕ) → b ≢ a → (e : Entry) → entry_for b e ≡ true → others a e ≡ true
  kept b n e h = not-no (ne_eqb e.address a (λ q. n (sym (eqb-true e.address b h) ∙ q)))

  gone : any (entry_for a) left ≡ false
  gone = no-yes (λ h. let (e, n, q) = any-in (entry_for a) left h in clash q (not_yes (in-keep (others a) t.misses n).1))

  filled-sector : (l : Line) → In l t.lines → wholly_invalid l ≡ false → (k : ℕ) → k < 4
      → is_reserved (get_or (fill_line a l).sectors k empty).status ≡ any (entry_for (l.tag + 32 * k)) left
  filled-sector l n u k h =
      ⊎_elim
      (λ e.
      let q : l.tag + 32 * k ≡ a = eqb-true (l.tag + 32 * k) a e in
      fill_this a l (four_at S t ok l n) k u (tag_aligned S t ok l n u) h q ∙ rw q (sym gone))
      (λ e.
      let q : l.tag + 32 * k ≢ a = eqb-false (l.tag + 32 * k) a e in
      rw (
        fill_other a l (four_at S t ok l n) k (sector_aligned a (entry_at S t ok d m).good) q,
        any_keep (entry_for (l.tag + 32 * k)) (others a) t.misses (kept (l.tag + 32 * k) q),
      )
      (reserved_at S t ok l n u k h))
      (flag (eqb (l.tag + 32 * k) a))

  filled_reserved : (l : Line) → In l t.lines → reserved_ok left (fill_line a l) ≡ true
  unfolding reserved_ok
  filled_reserved l n =
      rw (fill_unused a l (four_at S t ok l n), fill_tag a l)
      (or_unless (wholly_invalid l) _ (λ u. every_i _ 4 (λ k h. is_same _ _ (filled-sector l n u k h))))

  filled-entry : (e : Entry) → In e left → EntryIs S (after_fill a t) e
  filled-entry e n =
      let (o, r) = in-keep (others a) t.misses n in
      let k : EntryIs S t e = entry_at S t ok e o in
      let held = filled_held (block_of e.address) ∙ k.held in
      let others-kept = kept e.address (eqb-false e.address a (not_yes r)) in
      let once : eqb (count (entry_for e.address) left) 1 ≡ true = rw (count_keep (entry_for e.address) (others a) t.misses others-kept) k.once in
      search

  filled_queued : (y : Queued) → In y t.queue → queued_ok left y ≡ true
  filled_queued y n =
      let b : ℕ = y.address in
      queued_when t.misses left y (λ f h.
      let (e, o, u) = any-in (unsent_for b) t.misses h in
      let unsent : e.sent ≡ false = not_yes (and_2 (entry_for b e) (not e.sent) u) in
      in-any (unsent_for b) left
      (keep-in (others a) t.misses o
      (not-no (ne_eqb e.address a (λ q. clash s (ap (λ (v : Entry). v.sent) (sym (entry-one S t ok d e m o q)) ∙ unsent))))) u)
      (queued_at_lem S t ok y n)

  -- a fill loses no dirty line
  gained : (b c : Bool) (n : ℕ) → (b ≡ true → c ≡ true) → n + one (not b && c) ≡ n + one c - one b
  gained true true n h = omega arith
  gained true false n h = clash (h refl) refl
  gained false true n h = omega arith
  gained false false n h = omega arith

  -- line i, which has the block, is the only one that it changes
  module _ (i : ℕ) (inside : i < length t.lines) (there : holds (block_of a) (get_or t.lines i fresh) ≡ true) where
    other : (j : ℕ) → j < length t.lines → j ≢ i → holds (block_of a) (get_or t.lines j fresh) ≡ false
    other j h z = no-yes (λ e. z (holder_one S t ok (block_of a) j i h inside e there))

    abbrev line : Line
    line = get_or t.lines i fresh

    line-in : In line t.lines
    line-in = in_get_or t.lines i fresh inside

    one-soiled : any (soiled a) t.lines ≡ soiled a line
    one-soiled = any-one (soiled a) t.lines i fresh inside (λ j h z. rw (fill_kept a (get_or t.lines j fresh) (other j h z)) (not-and_self (dirty (get_or t.lines j fresh))))

    counted-filled : t.dirty_count + one (any (soiled a) t.lines) ≡ count dirty filled
    counted-filled =
        let e : t.dirty_count ≡ count dirty t.lines = dirty_count_is S t ok in
        ap (λ (b : Bool). t.dirty_count + one b) one-soiled
        ∙ gained (dirty line) (dirty (fill_line a line)) t.dirty_count (fill-dirty a line (four_at S t ok line line-in) (sectors_at_lem S t ok line line-in))
        ∙ recount dirty t.lines i (fill_line a line) fresh inside e
        ∙ ap (count dirty) (sym (map-one (fill_line a) fresh t.lines i inside (λ j h z. fill_kept a _ (other j h z))))

  filled-dirty : t.dirty_count + one (any (soiled a) t.lines) ≡ count dirty filled
  filled-dirty =
      let (l, n, h) = any-in (holds (block_of a)) t.lines (entry_at S t ok d m).held in
      let (i, k, e) = in_index t.lines fresh l n in
      counted-filled i k (rw e h)

  pub filled-sound : Sound S (after_fill d.address t)
  filled-sound =
      let sized : eqb (length filled) (lines_of S) ≡ true = rw (length-map t.lines (fill_line a)) ok.sized in
      let single = all_map (fill_line a) (alone filled) t.lines ∙ in_all (λ l. alone filled (fill_line a l)) t.lines filled-alone in
      let reserve = all_map (fill_line a) (reserved_ok left) t.lines ∙ in_all (λ l. reserved_ok left (fill_line a l)) t.lines filled_reserved in
      let entered = in_all (entry_ok S (after_fill a t)) left (λ e n. entry_whole S (after_fill a t) e (filled-entry e n)) in
      let lining = in_all (queued_ok left) t.queue filled_queued in
      let few = le-leb (length left) S.misses (omega (arith, keep-le (others a) t.misses, few_misses S t ok)) in
      let counted = eq-eqb (t.dirty_count + one (any (soiled a) t.lines)) (count dirty filled) filled-dirty in
      search filled_lined

pub fill_leaves_sound : (S : Settings) (t : Tables) → Sound S t → (a : ℕ) → LeavesSound S (fill a t)
unfolding fill
fill_leaves_sound S t ok a =
    by_flag (LeavesSound S) (any (sent_for a) t.misses) _ (refused NotSent)
    (λ e. let (d, m, q) = any-in (sent_for a) t.misses e in
    rw (eqb-true d.address a (and_1 (entry_for a d) d.sent q)) at (filled-sound S t ok d m (and_2 (entry_for a d) d.sent q)))
    (λ e. tt)
