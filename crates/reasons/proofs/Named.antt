-- Every refusal of an access by 5 to 9 names what it waits for: of what the refusal's own test says, the reason is never empty, and a
-- held set misses a line at least.
use Rattle.words.proofs.General.{ℕ, ◌+◌, ◌*◌, ◌/◌, ◌%◌, ◌≤◌, ◌<◌, arith, ◌≡◌, sym, ap, ◌∙◌, ◌⊎◌, inl, inr, Bool, true, false, ◌&&◌, false≢true, List, [], ◌∷◌, length, get_or, leb}
use Rattle.words.proofs.General.{ltb, eqb, eq-eqb, eqb-true, leb-true, leb-false, ltb-true, any, and_1, and_2, flag, by_flag, clash, In, all_in, any-in, in-any, in_get_or, in_index}
use Rattle.model.proofs.Terms.{in_range, lines_of, set_index, good_block, line_number, Line, Entry, Tables, is_invalid, is_reserved, wholly_invalid, has_reserved, entry_for, empty, fresh}
use Rattle.model.proofs.Terms.{ways_of, enough_dirty, entry_full}
use Rattle.model.specs.declared.Settings.{Settings}
use Rattle.model.specs.declared.Queued.{Queued}
use Rattle.model.specs.declared.Sector.{Sector}
use Rattle.model.proofs.SoundFacts.{Sound, line_at, four_at, tag_aligned, reserved_at}
use Rattle.model.proofs.Ways.{Sits, way_sits, set_of_line}
use Rattle.model.proofs.Fits.{ranged}
use Rattle.model.proofs.ProbeFindsSpot.{reserved_used}
use Rattle.reasons.specs.declared.Reason.{Reason}
use Rattle.reasons.specs.declared.Reason.TheVariants as reason
use Rattle.reasons.specs.Reasons.{entry_reason, of_set, any_entry, missing_lines, queue_reason}

-- something is named
abbrev Named : Reason → Type 0
Named r = r ≡ reason.Nothing → ⊥

any_named : (q : Entry → Bool) (es : List Entry) → any q es ≡ true → Named (entry_reason q es)
any_named q [] h = λ n. false≢true h
any_named q (e ∷ es) h = by_flag Named (q e) _ _ (λ k n. let z : ◌≡◌ {A = ℕ} 0 1 = cc in omega arith) (λ k. any_named q es (rw k at h))

-- a sector of a block lies in the block's set
set_of_sector : (S : Settings) (b k : ℕ) → b % 128 ≡ 0 → k < 4 → set_index S (b + 32 * k) ≡ set_index S b
set_of_sector S b k h l = let e : (b + 32 * k) / 128 ≡ b / 128 = omega arith in ap (λ (c : ℕ). c % S.sets) e

module _ (S : Settings) (t : Tables) (ok : Sound S t) where
  -- ---- 5: "some way has a RESERVED sector"

  -- a line of an address's set that waits has an entry of that set
  way_entered : (a w : ℕ) → w < length (ways_of S t.lines a) → has_reserved (get_or (ways_of S t.lines a) w fresh) ≡ true → any (of_set S.sets (set_index S a)) t.misses ≡ true
  way_entered a w h waits = go (flag (wholly_invalid l)) (any-in (λ (s : Sector). is_reserved s.status) l.sectors (ap has_reserved (sym sits.line) ∙ waits))
    where
      sits : Sits S t.lines a w
      sits = way_sits S t.lines a w h

      l : Line
      l = get_or t.lines (line_number S a w) fresh

      m : In l t.lines
      m = in_get_or t.lines (line_number S a w) fresh sits.inside

      its-set : wholly_invalid l ≡ false → set_index S l.tag ≡ set_index S a
      its-set u =
          let k = line_at S t ok (line_number S a w) sits.inside in
          let q : (good_block l.tag && eqb (set_index S l.tag) (line_number S a w / S.ways)) ≡ true = rw u at k.tagged in
          eqb-true (set_index S l.tag) (line_number S a w / S.ways) (and_2 (good_block l.tag) _ q) ∙ set_of_line S a w sits.low

      go : (wholly_invalid l ≡ true) ⊎ (wholly_invalid l ≡ false) → (s : Sector) × In s l.sectors × (is_reserved s.status ≡ true) → any (of_set S.sets (set_index S a)) t.misses ≡ true
      go (inl u) (s, n, q) = clash (all_in (λ (v : Sector). is_invalid v.status) l.sectors u n) (reserved_used s.status q)
      go (inr u) (s, n, q) =
          let (k, b, e) = in_index l.sectors empty s n in
          let four : k < 4 = omega (arith, four_at S t ok l m) in
          let some : any (entry_for (l.tag + 32 * k)) t.misses ≡ true =
          sym (reserved_at S t ok l m u k four) ∙ ap (λ (v : Sector). is_reserved v.status) e ∙ q in
          let (d, i, p) = any-in (entry_for (l.tag + 32 * k)) t.misses some in
          in-any (of_set S.sets (set_index S a)) t.misses i
          (eq-eqb (d.address / 128 % S.sets) (set_index S a)
          (ap (set_index S) (eqb-true d.address (l.tag + 32 * k) p) ∙ set_of_sector S l.tag k (tag_aligned S t ok l m u) four ∙ its-set u))

  pub busy_named : (a : ℕ) → any has_reserved (ways_of S t.lines a) ≡ true → Named (entry_reason (of_set S.sets (set_index S a)) t.misses)
  busy_named a h =
      let (l, m, q) = any-in has_reserved (ways_of S t.lines a) h in
      let (w, b, e) = in_index (ways_of S t.lines a) fresh l m in
      any_named (of_set S.sets (set_index S a)) t.misses (way_entered a w b (ap has_reserved e ∙ q))

-- ---- 6: "100 × dirty ≥ P × lines" does not hold

pub held_misses_some : (S : Settings) (d : ℕ) → enough_dirty S d ≡ false → 1 ≤ missing_lines S.dirty (lines_of S) d
held_misses_some S d h = let q = leb-false (S.dirty * lines_of S) (100 * d) h in omega arith

-- ---- 7: "too few free queue places" for an access that needs two at the most

pub queue_named : (S : Settings) (qs : List Queued) → in_range S ≡ true → (n : ℕ) → n ≤ 2 → ltb S.queue (length qs + n) ≡ true → Named (queue_reason S.queue qs)
queue_named S [] range n few h e = absurd (omega (arith, ltb-true S.queue (0 + n) h, (ranged S range).place))
queue_named S (q ∷ qs) range n few h e = let z : ◌≡◌ {A = ℕ} 0 1 = cc in omega arith

-- ---- 8: "entry has W tickets"

pub readers_named : (S : Settings) (a : ℕ) (es : List Entry) → any (entry_full S a) es ≡ true → Named (entry_reason (entry_for a) es)
readers_named S a es h =
    let (e, m, q) = any-in (entry_full S a) es h in
    any_named (entry_for a) es (in-any (entry_for a) es m (and_1 (entry_for a e) _ q))

-- ---- 9: "M in use"

pub table_named : (S : Settings) (es : List Entry) → in_range S ≡ true → leb S.misses (length es) ≡ true → Named (entry_reason any_entry es)
table_named S [] range h n = absurd (omega (arith, leb-true S.misses 0 h, (ranged S range).entry))
table_named S (e ∷ es) range h n = let z : ◌≡◌ {A = ℕ} 0 1 = cc in omega arith
