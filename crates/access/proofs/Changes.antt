-- A line that has the block of an access: to change the access's own sector and write its cycle, or its cycle alone if a read does not miss, is to write the whole line.
use Rattle.words.proofs.General.{ℕ, ◌+◌, ◌-◌, ◌*◌, ◌<◌, arith, ◌≡◌, refl, sym, ap, ◌∙◌, true, false, not, ◌&&◌, false≢true, List, [], ◌∷◌, length, get_or, set, length-set}
use Rattle.words.proofs.General.{get_or-set_same, set-set, set-get_or, one, put, not_yes, and_2, in_get_or}
use Rattle.model.proofs.Terms.{lines_of, address_of, block_of, sector_index, set_index, is_read, Line, Tables, empty, fresh, dirty, with_lines, with_dirty_count, lent}
use Rattle.model.proofs.Terms.{sector_at, sectors_at, Spot, takes_line, on_sector, is_miss, Sized}
use Rattle.model.specs.declared.Settings.{Settings}
use Rattle.model.specs.declared.Access.{Access}
use Rattle.model.specs.declared.Sector.{Sector}
use Rattle.model.proofs.SoundFacts.{parts, four_at, sector_below}
use Rattle.model.proofs.Turning.{set_below}
use Rattle.encoding.proofs.Bridge.{is_fit}
use Rattle.layout.specs.declared.Layout.{Layout}
use Rattle.layout.specs.Layout.{LaysOut}
use Rattle.layout.specs.Sectors.{some_modified}
use Rattle.layout.proofs.ByBlocks.{ByBlocks, is_stands, stands_encode, now_stands}
use Rattle.layout.proofs.Lines.{used_as, used_stands, lifted, plain_at}
use Rattle.layout.proofs.Room.{taken-room, tree_room}
use Rattle.layout.proofs.OneOfFour.{sector_of_four}
use Rattle.layout.proofs.DirtyCount.{dirty_count_at_lem, dirty_few}
use Rattle.tables.proofs.Changing.{with_sectors, change_stands}
use Rattle.probe.specs.declared.Decision.{Decision}
use Rattle.access.specs.Plan.{Met}
use Rattle.access.specs.Written.{sectors_for, sectors_after, line_left, LineMayChange, SectorLeft, TreeRoom}
use Rattle.access.proofs.PlanTests.{answer_is}
use Rattle.access.proofs.Lines.{stands, kept_stays, was_dirty, was_counted}
use Rattle.access.proofs.Acting.{sized, left_line, line_left_lem, new_count}
use Rattle.model.specs.declared.Access.TheVariants.{Read, Write}
use Rattle.model.specs.declared.Answer.{Answer}

-- what a read that does not miss makes of its sector
sector_kept : (x : Access) (n : Answer) (s : Sector) → (is_read x && not (is_miss n)) ≡ true → on_sector x n s ≡ s
sector_kept (Read a m k) n s e = rw (not_yes {b = is_miss n} e)
sector_kept (Write a m k) n s e = absurd (false≢true e)

module _ (S : Settings) {longs words marks : List ℕ} (x : Access) (d : Decision) (t : Tables) (p : Spot) (m : Met S (lent longs words marks) x d t p) {place : Layout} (pl : LaysOut S place) where
  abbrev line : Line
  line = get_or t.lines d.line fresh

  abbrev new : Line
  new = left_line S x d t p m pl

  below : d.line < length t.lines
  below = omega (arith, sized S x d t p m pl, m.below)

  sound_fit : Sized S longs words marks
  sound_fit = is_fit S (lent longs words marks) t m.is

  -- ---- room in the slices for what is read and written of it

  pub touch_room : {n : ℕ} → n ≡ length words → 1 + d.line < n
  touch_room same = let f = sound_fit in omega (arith, m.below)

  pub change_room : LineMayChange (record { settings = S; at = place; laid = pl }) d.line words marks
  change_room =
      let f = sound_fit in (
        (omega arith, omega arith),
        m.below,
        plain_at S t (is_stands m.is) pl (sized S x d t p m pl) d.line below,
        omega arith,
        (dirty_few S t m.is pl, was_counted S t m.is d.line m.below pl),
      )

  -- for the cycle at which it was taken and the tree of its set, in words as long
  pub set_room : {n : ℕ} → n ≡ length words → (place.taken + d.line < n) × TreeRoom S place x n
  set_room same =
      let f = sound_fit in
      let taken = taken-room pl f d.line m.below in
      let tree = tree_room pl f (set_index S (address_of x)) (set_below S m.is.range (address_of x)) in
      (rw same taken.inside, record { inside = rw same tree.inside; small = rw same tree.small; sets = f.sets; power = f.power; tree = f.tree })

  -- ---- its cycle

  -- of tables with as many lines, at the same time
  touched_then : (u : Tables) → u.now ≡ t.now → length u.lines ≡ lines_of S → {words₁ marks₁ words₂ : List ℕ} → ByBlocks S longs words₁ marks₁ u
      → words₂ ≡ put words₁ (1 + d.line) (get_or words₁ 0 0 ∷ [])
      → ByBlocks S longs words₂ marks₁ (with_lines (set u.lines d.line (used_as t.now (get_or u.lines d.line fresh))) u)
  touched_then u same long {words₁} h e =
      let inside : d.line < length u.lines = omega (arith, long, m.below) in
      used_stands S u h pl long d.line inside t.now
      (e ∙ ap (λ (n : ℕ). put words₁ (1 + d.line) (n ∷ [])) (now_stands h ∙ same))

  -- tables with the line and the count so left stand in the slices of the whole line written
  as_left : {words₁ marks₁ : List ℕ} (n : ℕ) (ls : List Line) → ByBlocks S longs words₁ marks₁ (with_dirty_count n (with_lines ls t)) → ls ≡ set t.lines d.line new → n ≡ new_count S x d t p m pl
      → lent longs words₁ marks₁ ≡ line_left place (lent longs words marks) d.line (block_of (address_of x)) (sectors_after x d (sectors_for d.meeting (sectors_at S words marks d.line)))
  as_left n ls h e f = stands_encode (rw (e, f) at h) ∙ sym (stands_encode (line_left_lem S x d t p m pl refl))

  -- ---- its sector, then its cycle

  module _ (stays : takes_line d.answer ≡ false) where
    found : p.line ≡ line
    found = stands S x d t p m (ap takes_line (answer_is S x d t p m) ∙ stays)

    four : length line.sectors ≡ 4
    four = four_at S t (parts S t m.is.soundly) line (in_get_or t.lines d.line fresh below)

    abbrev k : ℕ
    k = sector_index (address_of x)

    read_off : sectors_at S words marks d.line ≡ line.sectors
    read_off = lifted S t (is_stands m.is) pl (sized S x d t p m pl) d.line below four

    -- the access's own sector, as it is found
    own : sector_at S words marks (4 * d.line + k) ≡ get_or line.sectors k empty
    own = sym (sector_of_four S words marks d.line k empty (sector_below (address_of x))) ∙ ap (λ (ys : List Sector). get_or ys k empty) read_off

    pub met-left : {words₁ marks₁ words₂ : List ℕ} → SectorLeft S place x d.answer d.line words marks words₁ marks₁ → words₂ ≡ put words₁ (1 + d.line) (get_or words₁ 0 0 ∷ [])
        → lent longs words₂ marks₁ ≡ line_left place (lent longs words marks) d.line (block_of (address_of x)) (sectors_after x d (sectors_for d.meeting (sectors_at S words marks d.line)))
    met-left c e =
        let o : Sector = on_sector x d.answer (sector_at S words marks (4 * d.line + k)) in
        let y : Line = with_sectors (set line.sectors k o) line in
        let few = rw (was_dirty S t m.is d.line m.below, dirty_count_at_lem S t (is_stands m.is) pl) at (was_counted S t m.is d.line m.below pl) in
        let h = change_stands S t (is_stands m.is) pl (sized S x d t p m pl) d.line below four k o _ (ap (λ (ys : List Sector). some_modified (set ys k o)) read_off) few c in
        let n : ℕ = t.dirty_count - one (dirty line) + one (dirty y) in
        let long : length (set t.lines d.line y) ≡ lines_of S = length-set t.lines d.line y ∙ sized S x d t p m pl in
        let used = touched_then (with_dirty_count n (with_lines (set t.lines d.line y) t)) refl long h e in
        let there : get_or (set t.lines d.line y) d.line fresh ≡ y = get_or-set_same t.lines d.line y fresh below in
        let left : used_as t.now y ≡ new = rw (own, ← found, ← answer_is S x d t p m) in
        let lines : set (set t.lines d.line y) d.line (used_as t.now (get_or (set t.lines d.line y) d.line fresh)) ≡ set t.lines d.line new =
        set-set t.lines d.line y _ ∙ ap (λ (z : Line). set t.lines d.line (used_as t.now z)) there ∙ ap (set t.lines d.line) left in
        let same : dirty y ≡ dirty new = ap dirty left in
        let count : n ≡ new_count S x d t p m pl = omega (arith, ap one same) in
        as_left n _ used lines count

  -- ---- its cycle alone, if a read does not miss: it leaves its line's tag and sectors

  module _ (kept : (is_read x && not (is_miss d.answer)) ≡ true) where
    kept_there : (is_read x && not (is_miss p.answer)) ≡ true
    kept_there = rw (answer_is S x d t p m) kept

    new_is : new ≡ used_as t.now line
    new_is =
        rw (
          sector_kept x p.answer (get_or p.line.sectors (sector_index (address_of x)) empty) kept_there,
          set-get_or p.line.sectors (sector_index (address_of x)) empty,
          stands S x d t p m (kept_stays p.answer (not_yes (and_2 (is_read x) (not (is_miss p.answer)) kept_there))),
        )

    pub touched : lent longs (put words (1 + d.line) (get_or words 0 0 ∷ [])) marks
        ≡ line_left place (lent longs words marks) d.line (block_of (address_of x)) (sectors_after x d (sectors_for d.meeting (sectors_at S words marks d.line)))
    touched =
        -- it was dirty as it is
        let o : one (dirty new) ≡ one (dirty line) = ap (λ (y : Line). one (dirty y)) new_is in
        as_left t.dirty_count _ (touched_then t refl (sized S x d t p m pl) (is_stands m.is) refl) (ap (set t.lines d.line) (sym new_is)) (omega arith)
