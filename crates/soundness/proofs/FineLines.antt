-- What fine lines tell of RESERVED sectors: their tags are below 2^48, and an address can be RESERVED in its own set alone.
use Rattle.words.proofs.General.{ℕ, ◌+◌, ◌*◌, ◌/◌, ◌%◌, ◌^◌, ◌≤◌, ◌<◌, mod-lt, arith, ◌≡◌, sym, ap, ◌∙◌, Bool, true, not, ◌&&◌, and_assoc, List, eqb, ltb, ne_eqb, eqb-true}
use Rattle.words.proofs.General.{ltb-true, some, imp, and_1, and_2, imp_use, every_at, some_i}
use Rattle.model.specs.declared.Settings.{Settings}
use Rattle.model.proofs.Terms.{lines_of, block_of, sector_index, good_block, set_index, tag_at, status_at, live, line_fine, lines_fine, reserved_for}
use Rattle.encoding.proofs.Rows.{some_row}
use Rattle.soundness.proofs.Tests.{and_implied}

module _ (S : Settings) (longs words marks : List ℕ) where
  abbrev lives : ℕ → Bool
  lives = live S longs words marks

  abbrev reserved : ℕ → ℕ → Bool
  reserved = reserved_for S longs words marks

  reserved_lives : (l k : ℕ) → k < 4 → status_at marks (4 * l + k) ≡ 1 → lives l ≡ true
  reserved_lives l k h e =
      let f : status_at marks (4 * l + k) ≡ 0 → ⊥ = λ z. omega arith in
      some_i (λ k. not (eqb (status_at marks (4 * l + k)) 0)) 4 k h (ap not (ne_eqb _ _ f))

  -- so a live line need not be asked for
  pub reserved_short : (a l : ℕ) → (eqb (tag_at longs l) (block_of a) && eqb (status_at marks (4 * l + sector_index a)) 1) ≡ reserved a l
  reserved_short a l =
      and_implied (λ e. reserved_lives l (sector_index a) (omega arith) (eqb-true _ _ (and_2 (eqb (tag_at longs l) (block_of a)) _ e))) ∙ sym (and_assoc (lives l) _ _)

  module _ (fine : lines_fine S longs words marks ≡ true) where
    block_at : (l : ℕ) → l < lines_of S → lives l ≡ true → (good_block (tag_at longs l) && eqb (set_index S (tag_at longs l)) (l / S.ways)) ≡ true
    block_at l h v =
        let e = every_at (line_fine S longs words marks) (lines_of S) l fine h in
        let i : imp (lives l) (good_block (tag_at longs l) && eqb (set_index S (tag_at longs l)) (l / S.ways)) ≡ true = search (and_1, and_2) in
        imp_use _ _ i v

    pub reserved-low : (i : ℕ) → i < 4 * lines_of S → status_at marks i ≡ 1 → tag_at longs (i / 4) < 2 ^ 48
    reserved-low i h e =
        let s : 4 * (i / 4) + i % 4 ≡ i = omega arith in
        let v : lives (i / 4) ≡ true = reserved_lives (i / 4) (i % 4) (omega arith) (rw s e) in
        let b = block_at (i / 4) (omega arith) v in
        let t : ltb (tag_at longs (i / 4)) (2 ^ 48) ≡ true = search (and_1, and_2) in
        ltb-true _ _ t

    reserved-set : (a l : ℕ) → l < lines_of S → reserved a l ≡ true → l / S.ways ≡ set_index S a
    reserved-set a l h e =
        let v : lives l ≡ true = search (and_1, and_2) in
        let u : eqb (tag_at longs l) (block_of a) ≡ true = search (and_1, and_2) in
        let t : tag_at longs l ≡ block_of a = eqb-true _ _ u in
        let q : tag_at longs l / 128 ≡ a / 128 = omega arith in
        let b = block_at l h v in
        let w : eqb (set_index S (tag_at longs l)) (l / S.ways) ≡ true = search (and_1, and_2) in
        sym (eqb-true _ _ w) ∙ ap (λ (x : ℕ). x % S.sets) q

    -- 16 in the address's own set
    pub own-set-reserves : (a : ℕ) → 1 ≤ S.sets → 1 ≤ S.ways → some (lines_of S) (reserved a) ≡ some S.ways (λ w. reserved a (set_index S a * S.ways + w))
    own-set-reserves a sets ways = some_row S.ways ways (reserved a) S.sets (set_index S a) (mod-lt (a / 128) sets) (reserved-set a)
