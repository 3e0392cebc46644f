-- What the list of differences comes to: at 100, 200, .. 1,000 lines, 53 of each hundred at P = 53 and 59 at P = 59. Assumes nothing.
use Rattle.words.proofs.General.{ℕ, zero, suc, ◌+◌, ◌-◌, ◌*◌, ◌%◌, ◌≤◌, ◌<◌, zero-le, eq_of_mul-eq-mul_left, eq_of_mul-eq-mul_right, mul_left_comm, arith, ◌≡◌, refl, sym, ap, ◌∙◌}
use Rattle.words.proofs.General.{◌⊎◌, inl, inr, ⊎_elim, true, false, List, [], ◌∷◌, ◌++◌, flat_map, length, eqb, eqb-true, or_cases}
use Rattle.percentage.specs.declared.Triple.{Triple}
use Rattle.percentage.specs.Differences.{range, triple, percent_row, percent_rows, tables, differ, keep_differing, differences, hundreds}
use Rattle.percentage.proofs.Ties.{falls_short, differ-yes, differ-no}
use Rattle.percentage.proofs.Legal.{tied}
use Rattle.percentage.proofs.Lists.{range_cons, range_none, row_cons, rows_cons, tables_cons, keep_append, keep_yes, keep_no}

-- ---- over places that keep nothing
skip : (f : ℕ → List Triple) (a b : ℕ) → a ≤ b → ((x : ℕ) → a ≤ x → x < b → f x ≡ f (x + 1)) → f a ≡ f b
skip f a b u h = go (b - a) a (omega arith) h
  where
    go : (n a : ℕ) → a + n ≡ b → ((x : ℕ) → a ≤ x → x < b → f x ≡ f (x + 1)) → f a ≡ f b
    go zero a e h = ap f (omega arith)
    go (suc n) a e h = h a (omega arith) (omega arith) ∙ go n (a + 1) (omega arith) (λ x u v. h x (omega arith) v)

-- ---- a row: one dirty count
row_step : (l d p : ℕ) → p ≤ 100 → differ d l p ≡ false → keep_differing (percent_row l d p) ≡ keep_differing (percent_row l d (p + 1))
row_step l d p P e = ap keep_differing (row_cons l d p P) ∙ keep_no l d p (percent_row l d (p + 1)) e

row_end : (l d : ℕ) → keep_differing (percent_row l d 101) ≡ []
unfolding keep_differing percent_row
row_end l d = refl

module _ (l d : ℕ) (L : 1 ≤ l) (M : l ≤ 1024) (D : d ≤ l) where
  row_quiet : ((p : ℕ) → falls_short p ≡ true → 100 * d ≡ p * l → ⊥) → keep_differing (percent_row l d 0) ≡ []
  row_quiet n = skip (λ p. keep_differing (percent_row l d p)) 0 101 (omega arith) (λ p u v. row_step l d p (omega arith) (differ-no d l p (omega arith) (n p))) ∙ row_end l d

  row_one : (p : ℕ) → p ≤ 100 → falls_short p ≡ true → 100 * d ≡ p * l → keep_differing (percent_row l d 0) ≡ triple l d p ∷ []
  row_one p P s e =
      let rest = skip (λ q. keep_differing (percent_row l d q)) (p + 1) 101 (omega arith) (λ q u v. row_step l d q (omega arith) (other q (omega arith) (omega arith))) in
      skip (λ q. keep_differing (percent_row l d q)) 0 p zero-le (λ q u v. row_step l d q (omega arith) (other q (omega arith) (omega arith)))
      ∙ rw (row_cons l d p P, keep_yes l d p (percent_row l d (p + 1)) (differ-yes d l p (omega arith) e s), rest, row_end l d)
    where
      other : (q : ℕ) → q ≤ 100 → (q ≡ p → ⊥) → differ d l q ≡ false
      other q Q n = differ-no d l q (omega arith) (λ t g. n (eq_of_mul-eq-mul_right l L q p (sym g ∙ e)))

-- ---- a table: one number of lines
rows_step : (l d : ℕ) → d ≤ l → keep_differing (percent_rows l d) ≡ keep_differing (percent_row l d 0) ++ keep_differing (percent_rows l (d + 1))
rows_step l d h = ap keep_differing (rows_cons l d h) ∙ keep_append (percent_row l d 0) (percent_rows l (d + 1))

rows_end : (l : ℕ) → keep_differing (percent_rows l (l + 1)) ≡ []
unfolding keep_differing percent_rows
rows_end l = ap (λ (xs : List ℕ). keep_differing (flat_map (λ (e : ℕ). percent_row l e 0) xs)) (range_none (l + 1) (l + 1) (omega arith))

module _ (l : ℕ) (L : 1 ≤ l) (M : l ≤ 1024) where
  -- from a dirty count to a later one with no tie between
  rows_skip : (d b : ℕ) → d ≤ b → b ≤ l + 1 → ((e p : ℕ) → d ≤ e → e < b → falls_short p ≡ true → 100 * e ≡ p * l → ⊥) → keep_differing (percent_rows l d) ≡ keep_differing (percent_rows l b)
  rows_skip d b u h n =
      skip (λ e. keep_differing (percent_rows l e)) d b u (λ e v w. rw (rows_step l e (omega arith), row_quiet l e L M (omega arith) (λ p. n e p v w)))

  rows-one : (d p : ℕ) → d ≤ l → p ≤ 100 → falls_short p ≡ true → 100 * d ≡ p * l → keep_differing (percent_rows l d) ≡ triple l d p ∷ keep_differing (percent_rows l (d + 1))
  rows-one d p D P s e = rows_step l d D ∙ ap (λ (ts : List Triple). ts ++ keep_differing (percent_rows l (d + 1))) (row_one l d L M D p P s e)

  rows_quiet : (l % 100 ≡ 0 → ⊥) → keep_differing (percent_rows l 0) ≡ []
  rows_quiet n = rows_skip 0 (l + 1) zero-le (omega arith) (λ e p u v s h. n (tied e l p s h)) ∙ rows_end l

-- a tie at 100 × k lines is at 53 × k or at 59 × k
tied_at : (e k p : ℕ) → falls_short p ≡ true → 100 * e ≡ p * (100 * k) → (e ≡ 53 * k) ⊎ (e ≡ 59 * k)
tied_at e k p s h = ⊎_elim (λ g. inl (at 53 (eqb-true p 53 g))) (λ g. inr (at 59 (eqb-true p 59 g))) (or_cases (eqb p 53) (eqb p 59) s)
  where
    at : (q : ℕ) → p ≡ q → e ≡ q * k
    at q g = eq_of_mul-eq-mul_left 100 (omega arith) e (q * k) (h ∙ ap (λ (z : ℕ). z * (100 * k)) g ∙ mul_left_comm q 100 k)

pair : ℕ → List Triple
pair k = triple (100 * k) (53 * k) 53 ∷ triple (100 * k) (59 * k) 59 ∷ []

rows_hundred : (k : ℕ) → 1 ≤ k → k ≤ 10 → keep_differing (percent_rows (100 * k) 0) ≡ pair k
unfolding pair
rows_hundred k K X =
    rows_skip (100 * k) L M 0 (53 * k) zero-le (omega arith) (λ e p u v s h. between e p s h (omega arith) (omega arith))
    ∙ rows-one (100 * k) L M (53 * k) 53 (omega arith) (omega arith) refl (omega arith)
    ∙ ap (λ (ts : List Triple). triple (100 * k) (53 * k) 53 ∷ ts)
    (rows_skip (100 * k) L M (53 * k + 1) (59 * k) (omega arith) (omega arith) (λ e p u v s h. between e p s h (omega arith) (omega arith))
    ∙ rows-one (100 * k) L M (59 * k) 59 (omega arith) (omega arith) refl (omega arith)
    ∙ ap (λ (ts : List Triple). triple (100 * k) (59 * k) 59 ∷ ts)
    (rows_skip (100 * k) L M (59 * k + 1) (100 * k + 1) (omega arith) (omega arith) (λ e p u v s h. between e p s h (omega arith) (omega arith))
    ∙ rows_end (100 * k)))
  where
    L : 1 ≤ 100 * k
    L = omega arith

    M : 100 * k ≤ 1024
    M = omega arith

    between : (e p : ℕ) → falls_short p ≡ true → 100 * e ≡ p * (100 * k) → (e ≡ 53 * k → ⊥) → (e ≡ 59 * k → ⊥) → ⊥
    between e p s h m n = ⊎_elim m n (tied_at e k p s h)

-- ---- all the tables
tables_step : (l : ℕ) → l ≤ 1024 → keep_differing (tables l) ≡ keep_differing (percent_rows l 0) ++ keep_differing (tables (l + 1))
tables_step l h = ap keep_differing (tables_cons l h) ∙ keep_append (percent_rows l 0) (tables (l + 1))

tables_skip : (a b : ℕ) → 1 ≤ a → a ≤ b → b ≤ 1025 → ((l : ℕ) → a ≤ l → l < b → l % 100 ≡ 0 → ⊥) → keep_differing (tables a) ≡ keep_differing (tables b)
tables_skip a b A u B n =
    skip (λ l. keep_differing (tables l)) a b u (λ l v w. rw (tables_step l (omega arith), rows_quiet l (omega arith) (omega arith) (n l v w)))

-- after k hundreds
after : (n k : ℕ) → k + n ≡ 10 → keep_differing (tables (100 * k + 1)) ≡ flat_map pair (range (k + 1) 11)
unfolding flat_map keep_differing tables
after zero k e = rw (range_none (k + 1) 11 (omega arith)) (tables_skip (100 * k + 1) 1025 (omega arith) (omega arith) (omega arith) (λ l u v h. omega arith))
after (suc n) k e =
    tables_skip (100 * k + 1) (100 * (k + 1)) (omega arith) (omega arith) (omega arith) (λ l u v h. omega arith)
    ∙ tables_step (100 * (k + 1)) (omega arith)
    ∙ rw (rows_hundred (k + 1) (omega arith) (omega arith), after n (k + 1) (omega arith), range_cons (k + 1) 11 (omega arith))

pub differences_are : differences ≡ hundreds
unfolding differences hundreds pair
differences_are = after 10 0 refl

pub twenty : length differences ≡ 20
unfolding hundreds
twenty = ap (length {A = Triple}) differences_are
