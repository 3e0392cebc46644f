-- Numbers in rows of w, as lines in sets: a test over all rows that only one row can meet is a test over that row.
use Rattle.words.proofs.General.{ℕ, ◌+◌, ◌*◌, ◌/◌, ◌%◌, ◌≤◌, ◌<◌, mul-le-mul_right, suc-mul, div-add-mod', mod-lt, arith, ◌≡◌, sym, ap, ◌∙◌, Bool, true, eqb, eq-eqb, eqb-true}
use Rattle.words.proofs.General.{every, some, imp, iff, imp_i, imp_use, every_at, every_i, some_at, some_i}
use lib.Arith.{digits_lt, digits_div}
use Rattle.model.proofs.Terms.{lines_of, set_index}
use Rattle.model.specs.declared.Settings.{Settings}

module _ (w : ℕ) (pos : 0 < w) where
  -- those of the row of l before l
  pub every_row : (q : ℕ → Bool) (l : ℕ) → every l (λ m. imp (eqb (m / w) (l / w)) (q m)) ≡ every (l % w) (λ k. q (l / w * w + k))
  every_row q l =
      iff
      (λ e. every_i (λ k. q (l / w * w + k)) (l % w)
      (λ k h. imp_use _ _
      (every_at (λ m. imp (eqb (m / w) (l / w)) (q m)) l (l / w * w + k) e (omega (arith, div-add-mod' l w)))
      (eq-eqb _ _ (digits_div (l / w) (omega (arith, mod-lt l pos))))))
      (λ e. every_i (λ m. imp (eqb (m / w) (l / w)) (q m)) l (λ m h. imp_i _ _ (λ t.
      let r : m / w ≡ l / w = eqb-true _ _ t in
      let s : l / w * w + m % w ≡ m = rw (← r) (div-add-mod' m w) in
      rw s at (every_at (λ k. q (l / w * w + k)) (l % w) (m % w) e (omega (arith, div-add-mod' l w))))))

  -- where only row r can pass
  pub some_row : (q : ℕ → Bool) (n r : ℕ) → r < n → ((l : ℕ) → l < n * w → q l ≡ true → l / w ≡ r) → some (n * w) q ≡ some w (λ k. q (r * w + k))
  some_row q n r below only =
      iff
      (λ e. let (l, h, t) = some_at q (n * w) e in
      let s : l ≡ r * w + l % w = rw (← (only l h t)) (sym (div-add-mod' l w)) in
      some_i (λ k. q (r * w + k)) w (l % w) (mod-lt l pos) (ap q (sym s) ∙ t))
      (λ e. let (k, h, t) = some_at (λ k. q (r * w + k)) w e in some_i q (n * w) (r * w + k) (digits_lt below h) t)

-- the ways of an address's set are among the lines
pub set_room : (S : Settings) (a : ℕ) {k : ℕ} → k ≡ set_index S a → 1 ≤ S.sets → 1 ≤ S.ways → k * S.ways + S.ways ≤ lines_of S
set_room S a {k} e h w = let below : k < S.sets = rw e (mod-lt (a / 128) h) in rw suc-mul at (mul-le-mul_right S.ways below)
