-- Fill: what its parts leave is what the step on the tables says.
use Rattle.words.proofs.General.{ℕ, ◌+◌, ◌-◌, ◌*◌, ◌%◌, ◌≤◌, ◌<◌, mod-lt, div-add-mod', arith, ◌≡◌, refl, sym, ap, subst, ◌∙◌, ⊎_elim, Bool, true, false, not, ◌&&◌, ◌||◌, List}
use Rattle.words.proofs.General.{◌∷◌, map, length, get_or, set, eqb, leb, ltb, eqb-true, ltb-true, ltb-false, pad_to, pick, all, any, one, count, region, closed, and_1, and_2}
use Rattle.words.proofs.General.{not_yes, no-not, no-yes, flag, clash, any-in, in-any, all_in, any_set-same, in_set-same, in_index, in_get_or, recount, count-length, one-counted}
use Rattle.words.proofs.General.{map-one, length-region, take-pad_to}
use Rattle.model.proofs.Terms.{lines_of, block_of, sector_index, set_index, Line, Entry, Tables, done, is_invalid, holds, entry_for, no_entry, empty, fresh, with_lines, with_dirty_count}
use Rattle.model.proofs.Terms.{is_modified, dirty, lent, sector_at, all_ones, mask_ok, sector_ok, arrived, fill_line, tickets_of, after_fill, sent_for, fill, recounted, soiled, encoded}
use Rattle.model.proofs.Terms.{events_told, tidied, Leaves, Encodes, Sized}
use Rattle.model.specs.declared.Settings.{Settings}
use Rattle.model.specs.declared.Sector.{Sector}
use Rattle.model.specs.declared.Status.{Status}
use Rattle.model.specs.declared.Status.TheVariants.{Invalid, Reserved, Valid, Modified}
use Rattle.model.specs.declared.Refusal.TheVariants.{NotSent}
use Rattle.model.specs.declared.Event.TheVariants as event
use Rattle.model.specs.declared.Reply.{Reply}
use Rattle.model.proofs.SoundFacts.{Sound, parts, lines_are, four_at, holder_one, entry_at, LeavesSound, holder_set, dirty_count_is, few_misses, some_tickets, few_tickets, sector_below, sectors_at_lem}
use Rattle.layout.specs.declared.Layout.{Layout}
use Rattle.layout.specs.Layout.{LaysOut}
use Rattle.layout.specs.Places.{First}
use Rattle.layout.specs.Sectors.{Plain}
use Rattle.tables.specs.Raw.{holds_at, dirty_at, ZerosFrom}
use Rattle.tables.specs.Telling.{telling}
use Rattle.layout.proofs.ByBlocks.{ByBlocks, is_stands, stands_encode}
use Rattle.model.proofs.SendFillKeepSound.{fill_kept}
use Rattle.layout.proofs.Lines.{tag_at, lifted, plain_at}
use Rattle.tables.proofs.Misses.{sent-at, count_at, tickets-at, tickets-past, remove-stands, entry_found, entry-missing, misses_counted}
use Rattle.tables.proofs.Tellings.{refusal_leaves, done_leaves}
use Rattle.tables.specs.Changed.{CountFits, Changed}
use Rattle.tables.proofs.Statuses.{holds-bytes, dirty_of}
use Rattle.tables.proofs.Changing.{with_sectors, changed_as, change_stands}
use Rattle.layout.proofs.OneOfFour.{sector_of_four}
use Rattle.steps.specs.Parts.{Holding, SectorFilled, LineFilled, releasing}
use Rattle.steps.proofs.Entries.{kept-others, tickets_are, sent_is}
use Rattle.model.proofs.SendFillKeepSound.{fill_leaves_sound}
use Rattle.layout.proofs.DirtyCount.{dirty_count_at_lem}
use Rattle.encoding.proofs.Bridge.{is_fit}

-- ---- the sector that has come

pub sector-filled : (S : Settings) (at : Layout) (l a : ℕ) (words marks : List ℕ) {k : ℕ} {own come : Sector} (is : Bool) {words' marks' : List ℕ} → k ≡ sector_index a
    → own ≡ sector_at S words marks (4 * l + k) → come ≡ arrived own → is ≡ pick (eqb come.mask 0) (dirty_at marks l) true
    → Changed S at l k come is words marks words' marks' → SectorFilled S at l (sector_index a) words marks words' marks'
sector-filled S at l a words marks is {words'} {marks'} e f g q c =
    let y : Sector = sector_at S words marks (4 * l + sector_index a) in
    let come : _ ≡ arrived y = g ∙ ap arrived (f ∙ ap (λ (i : ℕ). sector_at S words marks (4 * l + i)) e) in
    subst (λ (b : Bool). Changed S at l (sector_index a) (arrived y) b words marks words' marks')
    (q ∙ ap (λ (s : Sector). pick (eqb s.mask 0) (dirty_at marks l) true) come)
    (changed_as S at l is words marks e come c)

-- ---- the line that has the block

-- what is found by the code's block
pub line-filled : (S : Settings) (a : ℕ) {at : Layout} {l block : ℕ} {longs words marks words' marks' : List ℕ} → block ≡ block_of a → l < lines_of S
    → holds_at longs marks block l ≡ true → SectorFilled S at l (sector_index a) words marks words' marks' → LineFilled S at (block_of a) (sector_index a) longs words marks words' marks'
line-filled S a {at} {l} {longs = longs} {words = words} {marks = marks} e inside held c = record {
  line = l;
  inside = inside;
  held = subst (λ (b : ℕ). holds_at longs marks b l ≡ true) e held;
  filled = c;
}

-- a sound sector that has come: dirty then if it has a dirty byte, else it was not, and the line is as dirty as before
come_dirty : (xs : List Sector) (k : ℕ) → k < length xs → all sector_ok xs ≡ true
    → pick (eqb (get_or xs k empty).mask 0) (any (λ s. is_modified s.status) xs) true ≡ any (λ s. is_modified s.status) (set xs k (arrived (get_or xs k empty)))
come_dirty xs k h ok = go (eqb (get_or xs k empty).mask 0) refl
  where
    one_ok : sector_ok (get_or xs k empty) ≡ true
    one_ok = all_in sector_ok xs ok (in_get_or xs k empty h)

    clean : (st : Status) (m : ℕ) (r : Bool) → mask_ok st m r ≡ true → eqb m 0 ≡ true → is_modified st ≡ false
    clean Invalid m r o e = refl
    clean Reserved m r o e = refl
    clean Valid m r o e = refl
    clean Modified m r o e = clash e (not_yes (and_2 (leb m all_ones) (not (eqb m 0)) (and_1 (leb m all_ones && not (eqb m 0)) (r || not (eqb m all_ones)) o)))

    go : (b : Bool) → eqb (get_or xs k empty).mask 0 ≡ b → pick b (any (λ s. is_modified s.status) xs) true ≡ any (λ s. is_modified s.status) (set xs k (arrived (get_or xs k empty)))
    go true e = sym (any_set-same (λ s. is_modified s.status) empty xs k (arrived (get_or xs k empty)) (rw e) (clean (get_or xs k empty).status (get_or xs k empty).mask (get_or xs k empty).readable one_ok e))
    go false e = sym (in-any (λ s. is_modified s.status) (set xs k (arrived (get_or xs k empty))) (in_set-same xs k (arrived (get_or xs k empty)) h) (rw e))

fill_held : (a : ℕ) (l : Line) → holds (block_of a) l ≡ true → fill_line a l ≡ with_sectors (set l.sectors (sector_index a) (arrived (get_or l.sectors (sector_index a) empty))) l
unfolding fill_line
fill_held a l e = rw e

module _ (S : Settings) (t : Tables) (ok : Sound S t) {longs words marks : List ℕ} (h : ByBlocks S longs words marks t) {at : Layout} (p : LaysOut S at) where
  four : (l : ℕ) → l < length t.lines → length (get_or t.lines l fresh).sectors ≡ 4
  four l k = four_at S t ok (get_or t.lines l fresh) (in_get_or t.lines l fresh k)

  held_at : (l b : ℕ) → l < length t.lines → holds_at longs marks b l ≡ holds b (get_or t.lines l fresh)
  held_at l b k =
      sym (holds-bytes S longs words marks l b)
      ∙ rw (tag_at S t h p (lines_are S t ok) l k)
      (ap (λ (xs : List Sector). not (all (λ s. is_invalid s.status) xs) && eqb (get_or t.lines l fresh).tag b) (lifted S t h p (lines_are S t ok) l k (four l k)))

  fill_one : (a l : ℕ) → l < length t.lines → holds (block_of a) (get_or t.lines l fresh) ≡ true → map (fill_line a) t.lines ≡ set t.lines l (fill_line a (get_or t.lines l fresh))
  fill_one a l b e =
      map-one (fill_line a) fresh t.lines l b (λ j k n. fill_kept a (get_or t.lines j fresh) (no-yes (λ z. n (holder_one S t ok (block_of a) j l k b z e))))

  -- a line that has the block is one of its set
  pub holding : 1 ≤ S.ways → (a : ℕ) → any (holds (block_of a)) t.lines ≡ true → Holding longs marks (set_index S a * S.ways) S.ways (block_of a)
  holding some a g =
      let (x, m, q) = any-in (holds (block_of a)) t.lines g in
      let (i, b, z) = in_index t.lines fresh x m in
      let e : holds (block_of a) (get_or t.lines i fresh) ≡ true = ap (holds (block_of a)) z ∙ q in
      let place : set_index S a * S.ways + i % S.ways ≡ i = ap (λ (n : ℕ). n * S.ways + i % S.ways) (holder_set S t ok a i b e) ∙ div-add-mod' i S.ways in
      (i % S.ways, mod-lt i some, ap (holds_at longs marks (block_of a)) place ∙ held_at i (block_of a) b ∙ e)

  -- its sector has come
  line_stands : (a : ℕ) {words' marks' : List ℕ} (f : LineFilled S at (block_of a) (sector_index a) longs words marks words' marks')
      → ByBlocks S longs words' marks' (with_dirty_count (recounted (get_or t.lines f.line fresh) (fill_line a (get_or t.lines f.line fresh)) t.dirty_count) (with_lines (map (fill_line a) t.lines) t))
  line_stands a {words'} {marks'} f =
      let l : ℕ = f.line in
      let n = lines_are S t ok in
      let k : f.line < length t.lines = omega (arith, f.inside, n) in
      let x : Line = get_or t.lines l fresh in
      let e : holds (block_of a) (get_or t.lines f.line fresh) ≡ true = sym (held_at l (block_of a) k) ∙ f.held in
      let own : sector_at S words marks (4 * l + sector_index a) ≡ get_or x.sectors (sector_index a) empty =
      sym (sector_of_four S words marks l (sector_index a) empty (sector_below a)) ∙ ap (λ (y : List Sector). get_or y (sector_index a) empty) (lifted S t h p n l k (four l k)) in
      let few : one (dirty x) ≤ t.dirty_count = omega (arith, dirty_count_is S t ok, one-counted dirty t.lines l fresh k) in
      let is : Bool = pick (eqb (get_or x.sectors (sector_index a) empty).mask 0) (dirty_at marks l) true in
      let then : is ≡ dirty (with_sectors (set x.sectors (sector_index a) (arrived (get_or x.sectors (sector_index a) empty))) x) =
      ap (λ (b : Bool). pick (eqb (get_or x.sectors (sector_index a) empty).mask 0) b true) (dirty_of S longs words marks l x (lifted S t h p n l k (four l k)))
      ∙ come_dirty x.sectors (sector_index a) (omega (arith, four l k, sector_below a)) (sectors_at_lem S t ok x (in_get_or t.lines l fresh k)) in
      let c = change_stands S t h p n l k (four l k) (sector_index a) (arrived (get_or x.sectors (sector_index a) empty)) is then few
      (subst (λ (y : Sector). Changed S at l (sector_index a) (arrived y) (pick (eqb y.mask 0) (dirty_at marks l) true) words marks words' marks') own f.filled) in
      let count : t.dirty_count - one (dirty x) + one (dirty (fill_line a x)) ≡ recounted x (fill_line a x) t.dirty_count = omega arith in
      rw (fill_one a l k e, ← count, fill_held a x e) c

  -- the count of the lines that it leaves
  line_count : (a : ℕ) {words' marks' : List ℕ} (f : LineFilled S at (block_of a) (sector_index a) longs words marks words' marks')
      → recounted (get_or t.lines f.line fresh) (fill_line a (get_or t.lines f.line fresh)) t.dirty_count ≡ count dirty (map (fill_line a) t.lines)
  line_count a f =
      let l : ℕ = f.line in
      let k : f.line < length t.lines = omega (arith, f.inside, lines_are S t ok) in
      let e : holds (block_of a) (get_or t.lines f.line fresh) ≡ true = sym (held_at l (block_of a) k) ∙ f.held in
      recount dirty t.lines l (fill_line a (get_or t.lines l fresh)) fresh k (dirty_count_is S t ok) ∙ ap (count dirty) (sym (fill_one a l k e))

  -- the count has room for the line, whose bytes are those of sectors
  pub line_fits : (l : ℕ) → l < lines_of S → lines_of S ≤ 1024 → CountFits at l words marks × Plain at l marks
  line_fits l b few =
      let n = lines_are S t ok in
      let k : l < length t.lines = omega arith in
      let c : get_or words at.dirty 0 ≡ count dirty t.lines = dirty_count_at_lem S t h p ∙ dirty_count_is S t ok in (
        (
          omega (arith, c, count-length dirty t.lines),
          subst (λ (w : Bool). one w ≤ get_or words at.dirty 0) (sym (dirty_of S longs words marks l (get_or t.lines l fresh) (lifted S t h p n l k (four l k)))) (omega (arith, c, one-counted dirty t.lines l fresh k)),
        ),
        plain_at S t h p n l k,
      )

-- ---- what is told

module _ (a : ℕ) (ts : List ℕ) (few : length ts ≤ 8) where
  releasing-tells : events_told (releasing a ts) ≡ event.Filled a ∷ map event.Released ts
  unfolding events_told
  releasing-tells = rw (take-pad_to 8 ts few)

  releasing_tidy : tidied (releasing a ts) ≡ releasing a ts
  unfolding tidied
  releasing_tidy = rw (take-pad_to 8 ts few)

-- the one event, and then the tickets that are copied out
pub reply_releases : (a : ℕ) (words : List ℕ) (i n : ℕ) {ts : List ℕ} {reply : Reply} → i + n ≤ length words → ts ≡ pad_to 8 (region words i n) → reply ≡ telling (event.Filled a)
    → record { first = reply.first; queued = reply.queued; queues = reply.queues; count = n; tickets = ts }
    ≡ releasing a (region words i n)
reply_releases a words i n room e f = rw (e, f, length-region words i n room)

-- ---- fill, from what its parts ensure

module _ (S : Settings) (a : ℕ) (t : Tables) {longs words marks : List ℕ} (i : Encodes S (lent longs words marks) t) {at : Layout} (p : LaysOut S at)
    {n e : ℕ} (u : First marks at.counts S.misses 0 n) (f : First longs at.misses n a e) where
  ok : Sound S t
  ok = parts S t i.soundly

  h : ByBlocks S longs words marks t
  h = is_stands i

  fit : Sized S longs words marks
  fit = is_fit S (lent longs words marks) t i

  used : n ≡ length t.misses
  used = misses_counted S t i p u

  -- whether an entry for the address is sent
  sent_test : (ltb e n && eqb (get_or marks (at.sent + e) 0) 1) ≡ any (sent_for a) t.misses
  sent_test = ⊎_elim there missing (flag (ltb e n))
    where
      there : ltb e n ≡ true → (ltb e n && eqb (get_or marks (at.sent + e) 0) 1) ≡ any (sent_for a) t.misses
      there q =
          let k : e < n = ltb-true e n q in
          let b : e < length t.misses = omega (arith, used) in
          rw q
          (sent-at S t h p (few_misses S t ok) e b
          ∙ sym (sent_is S t ok a e b (entry_found S t h p (few_misses S t ok) used f k)))

      missing : ltb e n ≡ false → (ltb e n && eqb (get_or marks (at.sent + e) 0) 1) ≡ any (sent_for a) t.misses
      missing q =
          rw q (sym (no-yes (λ z.
          let (x, m, g) = any-in (sent_for a) t.misses z in
          let (k, b, w) = in_index t.misses no_entry x m in
          entry-missing S t h p (few_misses S t ok) used f (omega (arith, ltb-false e n q, f.most)) k b
          (ap (λ (v : Entry). v.address) w ∙ eqb-true x.address a (and_1 (entry_for a x) x.sent g)))))

  pub fill-refused : {b : Bool} → b ≡ (ltb e n && eqb (get_or marks (at.sent + e) 0) 1) → not b ≡ true → {r : Reply} → r ≡ telling (event.Refused NotSent)
      → Leaves (encoded S (fill a t)) (lent longs words marks) r (lent longs words marks)
  unfolding fill
  fill-refused q z g = let w : any (sent_for a) t.misses ≡ false = sym (q ∙ sent_test) ∙ not_yes z in rw (g, w) (refusal_leaves NotSent (lent longs words marks))

  module _ {b : Bool} (q : b ≡ (ltb e n && eqb (get_or marks (at.sent + e) 0) 1)) (z : not b ≡ false) where
    pub fill-inside : e < n
    fill-inside = ltb-true e n (and_1 (ltb e n) (eqb (get_or marks (at.sent + e) 0) 1) (sym q ∙ no-not z))

    below : e < length t.misses
    below = omega (arith, used, fill-inside)

    is : (get_or t.misses e no_entry).address ≡ a
    is = entry_found S t h p (few_misses S t ok) used f fill-inside

    pub fill-count : get_or marks (at.counts + e) 0 ≤ S.readers
    fill-count = rw (count_at S t h p (few_misses S t ok) e below) (few_tickets S t ok e below)

    pub fill-holding : Holding longs marks (set_index S a * S.ways) S.ways (block_of a)
    fill-holding =
        holding S t ok h p fit.ways a
        (subst (λ (x : ℕ). any (holds (block_of x)) t.lines ≡ true) is (entry_at S t ok (get_or t.misses e no_entry) (in_get_or t.misses e no_entry below)).held)

    -- its tickets are some, and behind them its row is 0 when the line is filled
    pub fill-row : {c : ℕ} {words₁ marks₁ : List ℕ} → S.readers * e + S.readers ≤ S.readers * S.misses
        → c ≡ get_or marks (at.counts + e) 0
        → LineFilled S at (block_of a) (sector_index a) longs words marks words₁ marks₁ → at.tickets + S.readers * S.misses ≤ length words
        → (1 ≤ c) × (c ≤ S.readers) × ZerosFrom words₁ (at.tickets + S.readers * e) c S.readers
    fill-row s q line room =
        let n : length (get_or t.misses e no_entry).tickets ≡ get_or marks (at.counts + e) 0 = sym (count_at S t h p (few_misses S t ok) e below) in
        let c : _ ≡ length (get_or t.misses e no_entry).tickets = q ∙ sym n in
        rw c (some_tickets S t ok e below, few_tickets S t ok e below, tickets-past S _ (line_stands S t ok h p a line) p (few_misses S t ok) e below)

    -- the tickets, as they are told
    tickets : region words (at.tickets + S.readers * e) (get_or marks (at.counts + e) 0) ≡ tickets_of a t.misses
    tickets =
        ap (region words (at.tickets + S.readers * e)) (count_at S t h p (few_misses S t ok) e below)
        ∙ tickets-at S t h p (few_misses S t ok) e below (few_tickets S t ok e below)
        ∙ sym (tickets_are S t ok a e below is)

    few : length (tickets_of a t.misses) ≤ 8
    few = rw (tickets_are S t ok a e below is) (omega (arith, few_tickets S t ok e below, fit.readers))

    pub fill-leaves : {r : Reply} {longs₁ words₁ words₂ marks₁ marks₂ : List ℕ}
        → r ≡ releasing a (region words (at.tickets + S.readers * e) (get_or marks (at.counts + e) 0))
        → LineFilled S at (block_of a) (sector_index a) longs words marks words₁ marks₁
        → (longs₁ ≡ closed longs (at.misses + e) (n - e) 1) × (words₂ ≡ closed words₁ (at.tickets + S.readers * e) (S.readers * (n - e)) S.readers)
        × (marks₂ ≡ closed (closed marks₁ (at.sent + e) (n - e) 1) (at.counts + e) (n - e) 1)
        → Leaves (encoded S (fill a t)) (lent longs words marks) r (lent longs₁ words₂ marks₂)
    unfolding fill
    fill-leaves reply line gone =
        let reply : _ ≡ releasing a (tickets_of a t.misses) = reply ∙ ap (releasing a) tickets in
        let w : any (sent_for a) t.misses ≡ true = sym (q ∙ sent_test) ∙ no-not z in
        let outcome : fill a t ≡ done (event.Filled a ∷ map event.Released (tickets_of a t.misses)) (after_fill a t) = rw w in
        let kept : Sound S (after_fill a t) = subst (LeavesSound S) outcome (fill_leaves_sound S t ok a) in
        let after : Tables = with_dirty_count (t.dirty_count + one (any (soiled a) t.lines)) (with_lines (map (fill_line a) t.lines) t) in
        let count : recounted (get_or t.lines line.line fresh) (fill_line a (get_or t.lines line.line fresh)) t.dirty_count ≡ t.dirty_count + one (any (soiled a) t.lines) =
        line_count S t ok h p a line ∙ sym (eqb-true (t.dirty_count + one (any (soiled a) t.lines)) (count dirty (map (fill_line a) t.lines)) kept.counted) in
        let left = remove-stands S after (rw count at (line_stands S t ok h p a line)) p (few_misses S t ok) e below n (omega (arith, used)) u.most gone in
        done_leaves S outcome (rw reply (releasing-tells a (tickets_of a t.misses) few)) (rw reply (releasing_tidy a (tickets_of a t.misses) few))
        (stands_encode (rw (kept-others S t ok a e below is) left))
