-- What the functions of lines answer, of what their callees ensure.
use Rattle.words.proofs.General.{ℕ, ◌+◌, ◌*◌, ◌-◌, ◌/◌, ◌%◌, ◌≤◌, div-add-mod', arith, ◌≡◌, ◌∙◌, Bool, true, false, not, ◌&&◌, and_assoc, and_comm, and-true, List, get_or, eqb, leb}
use Rattle.words.proofs.General.{eqb-true, le-leb, every, and_1, and_2, and_i, not-both}
use Rattle.model.specs.declared.Settings.{Settings}
use Rattle.model.proofs.Terms.{good_block, set_index, tag_at, cycle_at, taken_at, now_at, live, apart, line_fine, told}
use Rattle.layout.specs.declared.Layout.{Layout}
use Rattle.layout.specs.Layout.{LaysOut}
use Rattle.layout.proofs.ByPlace.{read_from}
use Rattle.encoding.proofs.Rows.{every_row}
use Rattle.soundness.proofs.Tests.{and_implied}

-- cycle 0 is no later than any
idle_shape : (t : Bool) (c k n : ℕ) → (t && eqb c 0 && eqb k 0) ≡ (t && eqb c 0 && eqb k 0 && true && leb c n && leb k c && true)
idle_shape t c k n =
    let z : (t && eqb c 0 && eqb k 0) ≡ true → (c ≡ 0) × (k ≡ 0) = λ e. (eqb-true c 0 (and_2 t _ (and_1 (t && eqb c 0) _ e)), eqb-true k 0 (and_2 (t && eqb c 0) _ e)) in
    and_implied (λ e. let w = z e in and_i (le-leb c n (omega arith)) (le-leb k c (omega arith)))
    ∙ rw (and_comm (leb c n && leb k c) (t && eqb c 0 && eqb k 0)) (simp (and_assoc, and-true))

module _ (S : Settings) (longs words marks : List ℕ) where
  pub not_twin : (l m : ℕ) {r : Bool} → r ≡ live S longs words marks m → not (r && eqb (tag_at longs m) (tag_at longs l)) ≡ apart S longs words marks l m
  not_twin l m e = rw e (not-both (live S longs words marks m) _)

  -- 7, 28: a wholly invalid line
  pub idle-line : {at : Layout} → LaysOut S at → (l : ℕ) → live S longs words marks l ≡ false
      → (eqb (tag_at longs l) 0 && eqb (cycle_at words l) 0 && eqb (get_or words (at.taken + l) 0) 0) ≡ line_fine S longs words marks l
  idle-line p l e = rw (read_from (told p.taken) words l, e) (idle_shape (eqb (tag_at longs l) 0) (cycle_at words l) (taken_at S words l) (now_at words))

  -- 8 to 10, 27: any other looks at the lines of its own set before it
  pub live_line : {at : Layout} → LaysOut S at → (l : ℕ) {r : Bool} {i : ℕ} → 1 ≤ S.ways → live S longs words marks l ≡ true → i ≡ set_index S (tag_at longs l)
      → r ≡ every (l - l / S.ways * S.ways) (λ w. apart S longs words marks l (l / S.ways * S.ways + w))
      → (good_block (tag_at longs l) && eqb i (l / S.ways) && leb (cycle_at words l) (now_at words) && leb (get_or words (at.taken + l) 0) (cycle_at words l) && r)
      ≡ line_fine S longs words marks l
  live_line p l pos e s q =
      let n : l - l / S.ways * S.ways ≡ l % S.ways = omega (arith, div-add-mod' l S.ways) in
      rw (read_from (told p.taken) words l, s, q, e, n, ← (every_row S.ways pos (apart S longs words marks l) l))
