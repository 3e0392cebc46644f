-- "Probe and victim": what an access meets in its own set, from the settings, the ways of the set and the number of dirty lines alone.
use Rattle.std.specs.Prelude.{ℕ, suc, ◌*◌, Bool, false, not, ◌&&◌, ◌||◌, List, [], ◌∷◌, map, length, get_or, take, drop, leb, Option, Some, None}
use Rattle.words.specs.Words.{pick, any}
use Rattle.model.specs.Numbers.{status_number}
use Rattle.model.specs.Range.{lines_of, is_fifo, is_tree}
use Rattle.model.specs.Address.{address_of, block_of, sector_index, set_index}
use Rattle.model.specs.Tables.{Line, writing, Tables, wholly_invalid, has_reserved, dirty, holds, empty, emptied, fresh}
use Rattle.model.specs.Tree.{tree_choice, levels}
use Rattle.model.specs.declared.Settings.{Settings}
use Rattle.model.specs.declared.Status.{Status}
use Rattle.model.specs.declared.Sector.{Sector}
use Rattle.model.specs.declared.Queued.{Queued}
use Rattle.model.specs.declared.Answer.{Answer}
use Rattle.model.specs.declared.Answer.TheVariants.{Hit, HitReserved, Miss, SectorMiss}
use Rattle.model.specs.declared.Refusal.{Refusal}
use Rattle.model.specs.declared.Refusal.TheVariants.{SetBusy, SetHeld}
use Rattle.model.specs.declared.Access.{Access}
use Rattle.model.specs.declared.Access.TheVariants.{Read, Write}

-- ---- the answer by the sector's status: a row a status, columns "Write", "Read, readable", "Read, unreadable"

abbrev pub answers : List (List Answer)
answers =
    (SectorMiss ∷ SectorMiss ∷ SectorMiss ∷ [])
    ∷ (HitReserved ∷ HitReserved ∷ HitReserved ∷ [])
    ∷ (Hit ∷ Hit ∷ Hit ∷ [])
    ∷ (Hit ∷ Hit ∷ SectorMiss ∷ [])
    ∷ []

abbrev pub column_of : Access → Bool → ℕ
column_of (Write a m k) readable = 0
column_of (Read a m k) readable = pick readable 1 2

abbrev pub answer_at : Status → ℕ → Answer
answer_at s column = get_or (get_or answers (status_number s) []) column Miss

abbrev pub answer_of : Access → Sector → Answer
answer_of x s = answer_at s.status (column_of x s.readable)

-- ---- candidates

-- the ways of an address's set
abbrev pub ways_of : Settings → List Line → ℕ → List Line
ways_of S ls a = take S.ways (drop (set_index S a * S.ways) ls)

-- "100 × dirty ≥ P × lines", by the count that the tables keep (L3)
abbrev pub enough_dirty : Settings → ℕ → Bool
enough_dirty S d = leb (S.dirty * lines_of S) (100 * d)

-- "no sector is RESERVED and either none is MODIFIED or 100 × dirty ≥ P × lines"
abbrev pub candidate : Bool → Line → Bool
candidate enough l = not (has_reserved l) && (not (dirty l) || enough)

-- ---- searches among the ways: the first that passes, the last, the one with the least key and the lowest way among equals

abbrev pub next : Option ℕ → Option ℕ
next None = None
next (Some w) = Some (suc w)

abbrev pub or_else : Option ℕ → Option ℕ → Option ℕ
or_else None v = v
or_else (Some w) v = Some w

abbrev pub first : (Line → Bool) → List Line → Option ℕ
first p [] = None
first p (l ∷ ls) = pick (p l) (Some 0) (next (first p ls))

abbrev pub last : (Line → Bool) → List Line → Option ℕ
last p [] = None
last p (l ∷ ls) = or_else (next (last p ls)) (pick (p l) (Some 0) None)

abbrev pub older : (Line → ℕ) → List Line → ℕ → Option ℕ → Option ℕ
older key ls k None = Some 0
older key ls k (Some w) = pick (leb k (key (get_or ls w fresh))) (Some 0) (Some (suc w))

abbrev pub earliest : (Line → ℕ) → (Line → Bool) → List Line → Option ℕ
earliest key p [] = None
earliest key p (l ∷ ls) = pick (p l) (older key ls (key l) (earliest key p ls)) (next (earliest key p ls))

-- ---- the victim

-- what a candidate goes by: its last-access cycle, or the cycle at which it was taken: "rule 1 picks the earliest of these instead" (L1)
abbrev pub age : Settings → Line → ℕ
age S l = pick (is_fifo S) l.taken l.cycle

-- how a set chooses among its candidates: the least key, the lowest way among equals; or by its tree
pub data Rule : Type 0 where
  by_key : (Line → ℕ) → Rule
  by_tree : ℕ → Rule

abbrev pub choice_by : Rule → (Line → Bool) → List Line → Option ℕ
choice_by (by_key key) p ways = earliest key p ways
choice_by (by_tree t) p ways = tree_choice (λ w. get_or (map p ways) w false) t (levels (length ways))

-- which rule an address's set goes by, as the tables stand
abbrev pub Rules : Type 0
Rules = Tables → ℕ → Rule

unfoldable pub rule_of : Settings → Rules
rule_of S t a = pick (is_tree S) (by_tree (get_or t.trees (set_index S a) 0)) (by_key (age S))

-- "the highest wholly invalid candidate; with none", the candidate that the rule chooses
abbrev pub victim : Rule → Settings → ℕ → List Line → Option ℕ
victim R S d ways =
    or_else (last (λ l. candidate (enough_dirty S d) l && wholly_invalid l) ways) (choice_by R (candidate (enough_dirty S d)) ways)

-- ---- what an access meets: its way, the line (emptied and with the new tag on a MISS), the answer, the write-back if there is one

pub record Spot : Type 0 where
  pub way : ℕ
  pub line : Line
  pub answer : Answer
  pub backs : List Queued

pub data Place : Type 0 where
  no : Refusal → Place
  at : Spot → Place

-- "a victim with a MODIFIED sector gives a write-back of its block with its four masks"
abbrev pub write_back : Line → List Queued
write_back l = pick (dirty l) (writing l.tag (map (λ s. s.mask) l.sectors) ∷ []) []

-- "the line takes the new tag, all sectors INVALID, readable, with mask 0"; without a candidate refusal 5 or 6
abbrev pub take_over : ℕ → List Line → Option ℕ → Place
take_over a ways None = no (pick (any has_reserved ways) SetBusy SetHeld)
take_over a ways (Some w) =
    at record {
      way = w;
      line = emptied (block_of a);
      answer = Miss;
      backs = write_back (get_or ways w fresh);
    }

abbrev pub meet : Rule → Settings → ℕ → List Line → Access → Option ℕ → Place
meet R S d ways x None = take_over (address_of x) ways (victim R S d ways)
meet R S d ways x (Some w) =
    at record {
      way = w;
      line = get_or ways w fresh;
      answer = answer_of x (get_or (get_or ways w fresh).sectors (sector_index (address_of x)) empty);
      backs = [];
    }

unfoldable pub probe : Rule → Settings → ℕ → List Line → Access → Place
probe R S d ways x = meet R S d ways x (first (holds (block_of (address_of x))) ways)

-- what an access meets in these tables, under the rules R, and under the rule of the settings
abbrev pub met_under : Rules → Settings → Access → Tables → Place
met_under R S x t = probe (R t (address_of x)) S t.dirty_count (ways_of S t.lines (address_of x)) x

abbrev pub met_in : Settings → Access → Tables → Place
met_in S x t = met_under (rule_of S) S x t
