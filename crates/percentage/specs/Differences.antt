-- Where the float answer and the whole-number answer differ: the list of all triples of lines, dirty and P, rising, and what is kept of it.
use Rattle.std.specs.Prelude.{◌≡◌, Bool, true, false, cond, not, ℕ, zero, suc, ◌+◌, ◌-◌, ◌*◌, ◌≤◌, ◌<◌, length, drop, Option, Some, None, Result, Ok, Err}
use mathlib.Core.List.{List, [], ◌∷◌, ◌++◌, map, flat_map}
use Rattle.std.specs.Bool.{beq}
use Rattle.percentage.specs.Percent.{float_meets, whole_meets, PercentRanged, out_of_range}
use Rattle.model.specs.declared.Refusal.{Refusal}
use Rattle.percentage.specs.declared.Triple.{Triple}

-- the n numbers from a on, and the numbers from a up to, and without, b
unfoldable pub numbers_from : ℕ → ℕ → List ℕ
numbers_from a zero = []
numbers_from a (suc n) = a ∷ numbers_from (a + 1) n

unfoldable pub range : ℕ → ℕ → List ℕ
unfolding numbers_from
range a b = numbers_from a (b - a)

abbrev pub triple : ℕ → ℕ → ℕ → Triple
triple l d p = record { lines = l; dirty = d; percent = p }

-- the triples of these lines and this dirty, with P from p to 100; of these lines, with dirty from d on; and with lines from l to 1,024
unfoldable pub percent_row : ℕ → ℕ → ℕ → List Triple
unfolding range
percent_row l d p = map (triple l d) (range p 101)

unfoldable pub percent_rows : ℕ → ℕ → List Triple
unfolding percent_row flat_map
percent_rows l d = flat_map (λ (e : ℕ). percent_row l e 0) (range d (l + 1))

unfoldable pub tables : ℕ → List Triple
unfolding percent_rows
tables l = flat_map (λ (k : ℕ). percent_rows k 0) (range l 1025)

-- the two answers differ
unfoldable pub differ : ℕ → ℕ → ℕ → Bool
unfolding float_meets whole_meets
differ d l p = not (beq (float_meets d l p) (whole_meets d l p))

unfoldable pub keep_differing : List Triple → List Triple
unfolding differ
keep_differing [] = []
keep_differing (t ∷ ts) = cond (differ t.dirty t.lines t.percent) (t ∷ keep_differing ts) (keep_differing ts)

-- exactly the triples where the two answers differ, by lines, then dirty, then P, rising
unfoldable pub differences : List Triple
unfolding keep_differing tables
differences = keep_differing (tables 1)

-- what they come to: 53 and 59 of each hundred, at P of 53 and of 59
unfoldable pub hundreds : List Triple
unfolding range flat_map
hundreds = flat_map (λ (k : ℕ). triple (100 * k) (53 * k) 53 ∷ triple (100 * k) (59 * k) 59 ∷ []) (range 1 11)

-- those from a triple on; those of these lines, with dirty from d on, and of more lines; and those with lines from l on
unfoldable pub differences_from : ℕ → ℕ → ℕ → List Triple
unfolding keep_differing percent_row percent_rows tables
differences_from d l p = keep_differing (percent_row l d p ++ (percent_rows l (d + 1) ++ tables (l + 1)))

unfoldable pub rows_left : ℕ → ℕ → List Triple
unfolding keep_differing percent_rows tables
rows_left l d = keep_differing (percent_rows l d ++ tables (l + 1))

unfoldable pub tables_left : ℕ → List Triple
unfolding keep_differing tables
tables_left l = keep_differing (tables l)

-- a place to start from: a triple, or one past the last P
pub record Startable (d l p : ℕ) : Type 0 where
  pub some : 1 ≤ l
  pub most : l ≤ 1024
  pub part : d ≤ l
  pub cent : p ≤ 101

-- of the differences xs the first, with what is left after it; or there is none in front of the differences ys
abbrev pub FirstOf : List Triple → List Triple → Option Triple → Type 0
FirstOf xs ys (Some t) = PercentRanged t.dirty t.lines t.percent × (xs ≡ t ∷ differences_from t.dirty t.lines (t.percent + 1))
FirstOf xs ys None = xs ≡ ys

-- the first difference from a place on, with what is left after it; or there is none
abbrev pub Next : ℕ → ℕ → ℕ → Option Triple → Type 0
Next d l p r = FirstOf (differences_from d l p) [] r

abbrev pub FindsNext : Bool → ℕ → ℕ → ℕ → Result (Option Triple) Refusal → Type 0
FindsNext true d l p (Ok r) = Next d l p r
FindsNext true d l p (Err n) = ⊥
FindsNext false d l p r = r ≡ Err out_of_range

-- Some n: the n differences stand at the front of what was there before. None: there is no room for them, and nothing is written.
abbrev pub Lists : List Triple → List Triple → Option ℕ → Type 0
Lists before after (Some n) = (after ≡ differences ++ drop n before) × (n ≡ length differences) × (n ≤ length before)
Lists before after None = (after ≡ before) × (length before < length differences)
