-- Two logs that come in parts, side by side: the steps over their records. The numbers are of 64 bits, as the code's.
use Rattle.std.specs.Prelude.{◌≡◌, ℕ, ◌+◌, ◌%◌, ◌^◌, Bool, true, false, not, ◌&&◌, ◌||◌, List, [], ◌∷◌, ◌++◌, length, take, drop, eqb, leb, get_or, Option, Some, None}
use Rattle.words.specs.Words.{pick}
use Rattle.comparing.specs.declared.Log.TheVariants as log
use Rattle.comparing.specs.declared.Difference.{Difference}
use Rattle.comparing.specs.declared.Side.{Side}
use Rattle.comparing.specs.declared.Walk.{Walk}
use Rattle.comparing.specs.declared.Step.{Step}
use Rattle.comparing.specs.declared.Step.TheVariants as step
use Rattle.comparing.specs.Kinds.{starts_group}
use Rattle.comparing.specs.Groups.{record_end, record_past}
use Rattle.comparing.specs.Pairs.{same_bytes, differs, pairs, differences_from_pair}

abbrev pub side : ℕ → ℕ → Side
side place passed = record { place = place; passed = passed }

abbrev pub walk_beginning : Walk
walk_beginning = record { number = 0; first = side 0 0; second = side 0 0; same = true; differing = 0; lowest = None }

-- the length of the next record of a group, 0 where the group is over: where a group has begun, a start begins the next one
abbrev pub record_of : Bool → List ℕ → ℕ
record_of begun s = pick (eqb (length s) 0 || (begun && starts_group (get_or s 0 0))) 0 (record_past s 0)

-- what the bytes to come show of it: a record that they do not hold whole ends with the log
unfoldable pub ahead : Bool → List ℕ → Bool → Option ℕ
ahead begun s ends =
    pick (eqb (length s) 0) (pick ends (Some 0) None) (
    pick (begun && starts_group (get_or s 0 0)) (Some 0) (
    pick (ends || leb (record_end s 0) (length s)) (Some (record_past s 0)) None))

abbrev pub moved : Side → ℕ → Side
moved d n = side d.place ((d.passed + n) % 2 ^ 64)

abbrev pub side_behind : Side → Side
side_behind d = side ((d.place + d.passed) % 2 ^ 64) 0

-- behind the next records, of m and n bytes
abbrev pub onward : Walk → ℕ → ℕ → Bool → Walk
onward w m n same =
    record {
      number = w.number;
      first = moved w.first m;
      second = moved w.second n;
      same = w.same && same;
      differing = w.differing;
      lowest = w.lowest;
    }

-- how many pairs differ, with this one, and the lowest number of those
unfoldable pub pairs_differing : Walk → ℕ
pairs_differing w = pick w.same w.differing ((w.differing + 1) % 2 ^ 64)

abbrev pub or_number : Option ℕ → ℕ → Option ℕ
or_number (Some m) n = Some m
or_number None n = Some n

unfoldable pub lowest_of : Walk → Option ℕ
lowest_of w = pick w.same w.lowest (or_number w.lowest w.number)

-- behind the pair
abbrev pub next_pair : Walk → Walk
next_pair w =
    record {
      number = (w.number + 1) % 2 ^ 64;
      first = side_behind w.first;
      second = side_behind w.second;
      same = true;
      differing = pairs_differing w;
      lowest = lowest_of w;
    }

-- nothing of the pair is passed
abbrev pub untouched : Walk → Bool
untouched w = eqb w.first.passed 0 && eqb w.second.passed 0

-- where both groups are over; nothing of a pair is there behind both logs
unfoldable pub pair_over : Walk → Step
pair_over w = pick (untouched w) step.Over (step.Pair (not w.same) (next_pair w))

-- where the next records have m and n bytes
unfoldable pub record_row : Walk → List ℕ → List ℕ → ℕ → ℕ → Step
record_row w a b m n =
    pick (eqb m 0 && eqb n 0) (pair_over w)
    (step.Row m n (same_bytes (take m a) (take n b)) (onward w m n (same_bytes (take m a) (take n b))))

abbrev pub step_shown : Walk → List ℕ → List ℕ → Option ℕ → Option ℕ → Step
step_shown w a b None q = step.Wants log.First
step_shown w a b (Some m) None = step.Wants log.Second
step_shown w a b (Some m) (Some n) = record_row w a b m n

abbrev pub begun_side : Side → Bool
begun_side d = not (eqb d.passed 0)

-- the next step on bytes to come of both logs; `whole` says that no more come of the first, `ends` of the second
unfoldable pub stepped : Walk → List ℕ → Bool → List ℕ → Bool → Step
stepped w a whole b ends = step_shown w a b (ahead (begun_side w.first) a whole) (ahead (begun_side w.second) b ends)

-- ---- two logs passed step by step, however they come

-- a is the front of what is to come of a log, s; all of it where `whole` says so
pub record Front (s a : List ℕ) (whole : Bool) : Type 0 where
  pub behind : List ℕ
  pub joins : s ≡ a ++ behind
  pub all : whole ≡ true → behind ≡ []

-- the pair that a walk ends
abbrev pub pair_of : Walk → Difference
pair_of w = differs w.number (record { place = w.first.place; size = w.first.passed }) (record { place = w.second.place; size = w.second.passed })

-- steps over the logs A and B that led to the walk w: what is still to come of them is s and t, and the steps listed ds
pub data Walked (A B : List ℕ) : List ℕ → List ℕ → Walk → List Difference → Type 0 where
  not_begun : Walked A B A B walk_beginning []
  by_row : {s t : List ℕ} {w : Walk} {ds : List Difference} → Walked A B s t w ds
      → {a b : List ℕ} {whole ends : Bool} → Front s a whole → Front t b ends
      → {m n : ℕ} {same : Bool} {v : Walk} → stepped w a whole b ends ≡ step.Row m n same v
      → Walked A B (drop m s) (drop n t) v ds
  by_same : {s t : List ℕ} {w : Walk} {ds : List Difference} → Walked A B s t w ds
      → {a b : List ℕ} {whole ends : Bool} → Front s a whole → Front t b ends
      → {v : Walk} → stepped w a whole b ends ≡ step.Pair false v
      → Walked A B s t v ds
  by_differing : {s t : List ℕ} {w : Walk} {ds : List Difference} → Walked A B s t w ds
      → {a b : List ℕ} {whole ends : Bool} → Front s a whole → Front t b ends
      → {v : Walk} → stepped w a whole b ends ≡ step.Pair true v
      → Walked A B s t v (ds ++ (pair_of w ∷ []))

-- the number of the first pair of a list, if there is one
abbrev pub lowest_in : List Difference → Option ℕ
lowest_in [] = None
lowest_in (d ∷ ds) = Some d.number

-- where the steps come to the end of both logs: all pairs that differ were listed, in order, and counted
pub record Listed (A B : List ℕ) (w : Walk) (ds : List Difference) : Type 0 where
  pub all : ds ≡ differences_from_pair A B 0
  pub number : w.number ≡ pairs A B
  pub differing : w.differing ≡ length (differences_from_pair A B 0)
  pub lowest : w.lowest ≡ lowest_in (differences_from_pair A B 0)
