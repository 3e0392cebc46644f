-- The line that an access finds, and whether it was dirty: empty where a MISS takes it over, else the one that stands there, and then nothing is written back.
use Rattle.std.specs.Prelude.{Option, Some, None, is_some}
use Rattle.words.proofs.General.{ℕ, ◌≤◌, ◌<◌, arith, ◌≡◌, refl, sym, ap, ◌∙◌, Bool, true, false, true≢false, List, [], ◌∷◌, get_or, replicate, length, pick, one, clash, pick_both}
use Rattle.words.proofs.General.{one-counted, get_or_table}
use Rattle.model.proofs.Terms.{lines_of, address_of, block_of, sector_index, line_number, Line, Tables, empty, fresh, emptied, dirty, lent, sectors_at, line_at, Spot, write_back}
use Rattle.model.proofs.Terms.{ways_of, rule_of, answer_at, answer_of, is_miss, takes_line, Encodes}
use Rattle.model.specs.declared.Settings.{Settings}
use Rattle.model.specs.declared.Access.{Access}
use Rattle.model.specs.declared.Access.TheVariants.{Read, Write}
use Rattle.model.specs.declared.Answer.{Answer}
use Rattle.model.specs.declared.Answer.TheVariants.{Hit, HitReserved, Miss, SectorMiss}
use Rattle.model.specs.declared.Queued.{Queued}
use Rattle.model.specs.declared.Sector.{Sector}
use Rattle.model.proofs.Answers.{by_status}
use Rattle.model.proofs.Victims.{line_stays}
use Rattle.probe.specs.declared.Back.{Back}
use Rattle.probe.specs.declared.Decision.{Decision}
use Rattle.probe.specs.Decided.{listed}
use Rattle.model.proofs.Ways.{way_line, probe_by}
use Rattle.access.specs.Plan.{Met}
use Rattle.access.specs.Written.{sectors_for}
use Rattle.access.proofs.PlanTests.{shows, answer_is}
use Rattle.encoding.proofs.Bridge.{is_tables}
use Rattle.model.proofs.SoundFacts.{parts, lines_are}
use Rattle.layout.specs.declared.Layout.{Layout}
use Rattle.layout.specs.Layout.{LaysOut}
use Rattle.layout.proofs.DirtyCount.{dirty_counted}
use Rattle.tables.specs.Raw.{dirty_at}
use Rattle.tables.proofs.Statuses.{dirty_of}
use Rattle.probe.proofs.OfTables.{lines_held_lem}

module _ (S : Settings) {longs words marks : List ℕ} (t : Tables) (is : Encodes S (lent longs words marks) t) (l : ℕ) (below : l < lines_of S) where
  pub line_held : get_or t.lines l fresh ≡ line_at S longs words marks l
  line_held =
      ap (λ (ls : List Line). get_or ls l fresh) (lines_held_lem S (lent longs words marks) (is_tables S (lent longs words marks) t is))
      ∙ get_or_table (lines_of S) (line_at S longs words marks) l fresh below

  pub was_dirty : dirty_at marks l ≡ dirty (get_or t.lines l fresh)
  was_dirty = dirty_of S longs words marks l (get_or t.lines l fresh) (ap (λ (y : Line). y.sectors) (sym line_held))

  pub was_counted : {at : Layout} → LaysOut S at → one (dirty_at marks l) ≤ get_or words at.dirty 0
  was_counted pl =
      let inside : l < length t.lines = omega (arith, lines_are S t (parts S t is.soundly)) in
      rw was_dirty (omega (arith, dirty_counted S t is pl, one-counted dirty t.lines l fresh inside))

-- ---- answers

-- of a way that matches none is MISS
never_taken : (x : Access) (s : Sector) → takes_line (answer_of x s) ≡ false
never_taken (Write a m k) s = by_status (λ c. takes_line (answer_at c 0) ≡ false) refl refl refl refl s.status
never_taken (Read a m k) s =
    pick_both (λ (n : ℕ). takes_line (answer_at s.status n) ≡ false) s.readable
    (by_status (λ c. takes_line (answer_at c 1) ≡ false) refl refl refl refl s.status) (by_status (λ c. takes_line (answer_at c 2) ≡ false) refl refl refl refl s.status)

pub kept_stays : (n : Answer) → is_miss n ≡ false → takes_line n ≡ false
kept_stays Hit e = refl
kept_stays HitReserved e = refl
kept_stays Miss e = absurd (true≢false e)
kept_stays SectorMiss e = refl

-- ---- what is found in the slices

listed_as : (o : Option Back) (c : Bool) (z : Queued) → listed o ≡ pick c (z ∷ []) [] → is_some o ≡ c
listed_as (Some y) true z e = refl
listed_as (Some y) false z e = let n : ◌≡◌ {A = ℕ} 1 0 = ap length e in absurd (omega arith)
listed_as None true z e = let n : ◌≡◌ {A = ℕ} 0 1 = ap length e in absurd (omega arith)
listed_as None false z e = refl

none_listed : (o : Option Back) → listed o ≡ [] → o ≡ None
none_listed (Some y) e = let n : ◌≡◌ {A = ℕ} 1 0 = ap length e in absurd (omega arith)
none_listed None e = refl

module _ (S : Settings) {longs words marks : List ℕ} (x : Access) (d : Decision) (t : Tables) (p : Spot) (m : Met S (lent longs words marks) x d t p) where
  abbrev ways : List Line
  ways = ways_of S t.lines (address_of x)

  -- a line that no MISS takes
  pub stands : takes_line p.answer ≡ false → p.line ≡ get_or t.lines d.line fresh
  stands n =
      line_stays (rule_of S t (address_of x)) S t.dirty_count ways x p n m.probed
      ∙ way_line S t.lines (address_of x) p.way (rw (shows S x d t p m).way m.way)
      ∙ ap (λ (i : ℕ). get_or t.lines i fresh) (sym m.numbered)

  pub sectors_met : p.line.sectors ≡ sectors_for d.meeting (sectors_at S words marks d.line)
  sectors_met =
      (shows S x d t p m).sectors
      ∙ ap (λ (l : Line). sectors_for d.meeting l.sectors)
      (way_line S t.lines (address_of x) d.way m.way
      ∙ ap (λ (i : ℕ). get_or t.lines i fresh) (ap (line_number S (address_of x)) (sym (shows S x d t p m).way) ∙ sym m.numbered)
      ∙ line_held S t m.is d.line m.below)

  module _ (takes : takes_line d.answer ≡ true) where
    -- it is empty, and was written back if it was dirty
    emptied-is : (p.line ≡ emptied (block_of (address_of x))) × (p.backs ≡ write_back (get_or ways p.way fresh))
    emptied-is =
        probe_by (rule_of S t (address_of x)) S t.dirty_count ways x
        (λ (q : Spot). takes_line q.answer ≡ true → (q.line ≡ emptied (block_of (address_of x))) × (q.backs ≡ write_back (get_or ways q.way fresh)))
        (λ w f y. clash y (never_taken x (get_or (get_or ways w fresh).sectors (sector_index (address_of x)) empty))) (λ f w v y. (refl, refl)) p m.probed (ap takes_line (answer_is S x d t p m) ∙ takes)

    pub sectors-taken : sectors_for d.meeting (sectors_at S words marks d.line) ≡ replicate 4 empty
    sectors-taken = sym sectors_met ∙ ap (λ (l : Line). l.sectors) emptied-is.0

    -- a victim is written back if it is dirty
    pub back-dirty : is_some d.back ≡ dirty_at marks d.line
    back-dirty =
        listed_as d.back (dirty (get_or ways p.way fresh)) _ (sym (shows S x d t p m).backs ∙ emptied-is.1)
        ∙ ap dirty (way_line S t.lines (address_of x) p.way (rw (shows S x d t p m).way m.way) ∙ ap (λ (i : ℕ). get_or t.lines i fresh) (sym m.numbered))
        ∙ sym (was_dirty S t m.is d.line m.below)

  -- only a victim is written back
  pub no_back : takes_line d.answer ≡ false → d.back ≡ None
  no_back n =
      none_listed d.back (sym (shows S x d t p m).backs
      ∙ probe_by (rule_of S t (address_of x)) S t.dirty_count ways x (λ (q : Spot). takes_line q.answer ≡ false → q.backs ≡ [])
      (λ w f y. refl) (λ f w v y. clash refl y) p m.probed (ap takes_line (answer_is S x d t p m) ∙ n))
