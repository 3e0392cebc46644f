-- The list of differences, a step at a time: what is left of it from a place on. Assumes nothing.
use Rattle.words.proofs.General.{ℕ, suc, ◌+◌, ◌-◌, ◌≤◌, ◌<◌, arith, ◌≡◌, refl, ap, ◌∙◌, ⊎_elim, Bool, true, false, cond, List, [], ◌∷◌, ◌++◌, map, flat_map, append_assoc}
use Rattle.words.proofs.General.{flag}
use Rattle.percentage.specs.declared.Triple.{Triple}
use Rattle.percentage.specs.Differences.{numbers_from, range, triple, percent_row, percent_rows, tables, differ, keep_differing, differences, differences_from, rows_left, tables_left}

-- ---- the numbers from a up to b
pub range_cons : (a b : ℕ) → a < b → range a b ≡ a ∷ range (a + 1) b
unfolding range
range_cons a b h = let e : b - a ≡ suc (b - (a + 1)) = omega arith in ap (numbers_from a) e

pub range_none : (a b : ℕ) → b ≤ a → range a b ≡ []
unfolding range
range_none a b h = let e : b - a ≡ 0 = omega arith in ap (numbers_from a) e

-- ---- the triples
pub row_cons : (l d p : ℕ) → p ≤ 100 → percent_row l d p ≡ triple l d p ∷ percent_row l d (p + 1)
unfolding percent_row
row_cons l d p h = ap (map (triple l d)) (range_cons p 101 (omega arith))

pub rows_cons : (l d : ℕ) → d ≤ l → percent_rows l d ≡ percent_row l d 0 ++ percent_rows l (d + 1)
unfolding percent_rows
rows_cons l d h = ap (flat_map (λ (e : ℕ). percent_row l e 0)) (range_cons d (l + 1) (omega arith))

pub tables_cons : (l : ℕ) → l ≤ 1024 → tables l ≡ percent_rows l 0 ++ tables (l + 1)
unfolding tables
tables_cons l h = ap (flat_map (λ (k : ℕ). percent_rows k 0)) (range_cons l 1025 (omega arith))

-- a table's first row, and the others
table : (l : ℕ) → l ≤ 1024 → tables l ≡ percent_row l 0 0 ++ (percent_rows l 1 ++ tables (l + 1))
table l h = rw (tables_cons l h, rows_cons l 0 (omega arith), append_assoc)

-- ---- what is kept
pub keep_append : (s t : List Triple) → keep_differing (s ++ t) ≡ keep_differing s ++ keep_differing t
unfolding keep_differing
keep_append [] t = refl
keep_append (x ∷ xs) t = rw (keep_append xs t) (⊎_elim (λ q. rw q) (λ q. rw q) (flag (differ x.dirty x.lines x.percent)))

pub keep_yes : (l d p : ℕ) (ts : List Triple) → differ d l p ≡ true → keep_differing (triple l d p ∷ ts) ≡ triple l d p ∷ keep_differing ts
unfolding keep_differing
keep_yes l d p ts e = ap (λ (b : Bool). cond b (triple l d p ∷ keep_differing ts) (keep_differing ts)) e

pub keep_no : (l d p : ℕ) (ts : List Triple) → differ d l p ≡ false → keep_differing (triple l d p ∷ ts) ≡ keep_differing ts
unfolding keep_differing
keep_no l d p ts e = ap (λ (b : Bool). cond b (triple l d p ∷ keep_differing ts) (keep_differing ts)) e

-- ---- what is left from a place on
pub rest_first : differences ≡ differences_from 0 1 0
unfolding differences differences_from
rest_first = ap keep_differing (table 1 (omega arith))

module _ (l d p : ℕ) where
  pub row_hit : p ≤ 100 → differ d l p ≡ true → differences_from d l p ≡ triple l d p ∷ differences_from d l (p + 1)
  unfolding differences_from
  row_hit P e = rw (row_cons l d p P, keep_yes l d p (percent_row l d (p + 1) ++ (percent_rows l (d + 1) ++ tables (l + 1))) e)

  pub row_miss : p ≤ 100 → differ d l p ≡ false → differences_from d l p ≡ differences_from d l (p + 1)
  unfolding differences_from
  row_miss P e = rw (row_cons l d p P, keep_no l d p (percent_row l d (p + 1) ++ (percent_rows l (d + 1) ++ tables (l + 1))) e)

  pub row_over : 100 < p → differences_from d l p ≡ rows_left l (d + 1)
  unfolding differences_from rows_left percent_row
  row_over P = ap (λ (ns : List ℕ). keep_differing (map (triple l d) ns ++ (percent_rows l (d + 1) ++ tables (l + 1)))) (range_none p 101 P)

pub row_first : (l d : ℕ) → d ≤ l → rows_left l d ≡ differences_from d l 0
unfolding differences_from rows_left
row_first l d h =
    ap keep_differing (ap (λ (a : List Triple). a ++ tables (l + 1)) (rows_cons l d h) ∙ append_assoc (percent_row l d 0) (percent_rows l (d + 1)) (tables (l + 1)))

pub rows_over : (l d : ℕ) → l < d → rows_left l d ≡ tables_left (l + 1)
unfolding rows_left tables_left percent_rows
rows_over l d h = ap (λ (ns : List ℕ). keep_differing (flat_map (λ (e : ℕ). percent_row l e 0) ns ++ tables (l + 1))) (range_none d (l + 1) (omega arith))

pub table_first : (l : ℕ) → l ≤ 1024 → tables_left l ≡ rows_left l 0
unfolding rows_left tables_left
table_first l h = ap keep_differing (tables_cons l h)

pub tables_over : (l : ℕ) → 1024 < l → tables_left l ≡ []
unfolding tables_left tables keep_differing
tables_over l h = ap (λ (ns : List ℕ). keep_differing (flat_map (λ (k : ℕ). percent_rows k 0) ns)) (range_none l 1025 (omega arith))
