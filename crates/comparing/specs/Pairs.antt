-- Groups paired by number, the first pair that differs, and what is answered to any two logs.
use Rattle.std.specs.Prelude.{◌≡◌, ℕ, zero, suc, ◌+◌, ◌-◌, ◌%◌, ◌^◌, max, Bool, ◌||◌, List, [], ◌∷◌, length, ltb, Option, Some, None, Result, Ok, Err}
use Rattle.words.specs.Words.{pick}
use Rattle.std.specs.Str.{bytes_eq}
use Rattle.comparing.specs.declared.Log.{Log}
use Rattle.comparing.specs.declared.Log.TheVariants as log
use Rattle.comparing.specs.declared.Refused.{Refused}
use Rattle.comparing.specs.declared.Part.{Part}
use Rattle.comparing.specs.declared.Difference.{Difference}
use Rattle.comparing.specs.declared.Cursor.{Cursor}
use Rattle.comparing.specs.declared.Found.{Found}
use Rattle.comparing.specs.Groups.{part_to, bytes_in, group_end, groups, group_side}
use Rattle.comparing.specs.Checks.{Told, checked}

abbrev pub same_bytes : List ℕ → List ℕ → Bool
same_bytes = bytes_eq

-- whether the pair of a number has the same bytes on both sides
unfoldable pub same_pair : List ℕ → List ℕ → ℕ → Bool
same_pair a b n = same_bytes (bytes_in a (group_side a n)) (bytes_in b (group_side b n))

-- a pair that differs: its number and the place and length of each side
abbrev pub differs : ℕ → Part → Part → Difference
differs n p q = record { number = n; first = p; second = q }

-- of d pairs from number n on, the first that differs
unfoldable pub first_of : ℕ → List ℕ → List ℕ → ℕ → Option Difference
first_of zero a b n = None
first_of (suc d) a b n = pick (same_pair a b n) (first_of d a b (suc n)) (Some (differs n (group_side a n) (group_side b n)))

-- there are as many pairs as the longer log has groups
abbrev pub pairs : List ℕ → List ℕ → ℕ
pairs a b = max (length (groups a)) (length (groups b))

unfoldable pub first_difference : List ℕ → List ℕ → ℕ → Option Difference
first_difference a b from = first_of (pairs a b - from) a b from

-- all pairs from a number on that differ, in order
unfoldable pub listed : ℕ → List ℕ → List ℕ → ℕ → List Difference
listed zero a b n = []
listed (suc d) a b n = pick (same_pair a b n) (listed d a b (suc n)) (differs n (group_side a n) (group_side b n) ∷ listed d a b (suc n))

unfoldable pub differences_from_pair : List ℕ → List ℕ → ℕ → List Difference
differences_from_pair a b from = listed (pairs a b - from) a b from

abbrev pub Answer : Type 0
Answer = Result (Option Difference) Refused

abbrev pub refusing_log : Log → Told → Answer → Answer
refusing_log l (Err f) r = Err (record { log = l; fault = f })
refusing_log l (Ok x) r = r

-- "the first log is checked whole, then the second, before any pairing"
unfoldable pub compared : List ℕ → List ℕ → ℕ → Answer
compared a b from = refusing_log log.First (checked a) (refusing_log log.Second (checked b) (Ok (first_difference a b from)))

-- ---- going on from a cursor, wherever it stands

abbrev pub at_start : Cursor
at_start = record { number = 0; first = 0; second = 0 }

-- behind the groups that begin at its places; the number is of 64 bits, as the code's
abbrev pub cursor_behind : List ℕ → List ℕ → Cursor → Cursor
cursor_behind a b c = record { number = (c.number + 1) % 2 ^ 64; first = group_end a c.first; second = group_end b c.second }

abbrev pub group_at : List ℕ → ℕ → Part
group_at s at = part_to at (group_end s at)

-- the first pair from there on that differs, d pairs at most, and the cursor behind it; where there is none, one behind both logs
unfoldable pub found_from : ℕ → List ℕ → List ℕ → Cursor → Found
found_from zero a b c = record { difference = None; next = c }
found_from (suc d) a b c =
    pick (ltb c.first (length a) || ltb c.second (length b)) (
    pick (same_bytes (bytes_in a (group_at a c.first)) (bytes_in b (group_at b c.second)))
    (found_from d a b (cursor_behind a b c))
    (record { difference = Some (differs c.number (group_at a c.first) (group_at b c.second)); next = cursor_behind a b c }))
    (record { difference = None; next = c })

-- a group is a byte or more
unfoldable pub found_pair : List ℕ → List ℕ → Cursor → Found
found_pair a b c = found_from (length a + length b) a b c

-- a cursor that stands where the groups of its number begin
pub record CursorStands (a b : List ℕ) (c : Cursor) : Type 0 where
  pub in_a : c.first ≡ (group_side a c.number).place
  pub in_b : c.second ≡ (group_side b c.number).place

-- the number to go on with: the one after the pair that differs; where there is none, the number of pairs, or that asked with if higher
abbrev pub NextNumber : List ℕ → List ℕ → ℕ → Option Difference → ℕ → Type 0
NextNumber a b n (Some d) next = next ≡ d.number + 1
NextNumber a b n None next = next ≡ max n (pairs a b)

-- asked with number n: the answer, and a cursor that stands behind it
pub record GoesOn (a b : List ℕ) (n : ℕ) (r : Found) : Type 0 where
  pub says : r.difference ≡ first_difference a b n
  pub stands : CursorStands a b r.next
  pub behind : NextNumber a b n r.difference r.next.number
