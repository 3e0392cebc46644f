-- What is wrong with a log, and where: "at each record 14 (command kinds too) and 15 with the place, then, after its last record, 17
-- for a log that begins inside a group".
use Rattle.std.specs.Prelude.{ℕ, zero, suc, List, [], ◌∷◌, length, leb, ltb, get_or, ⊤, Option, Some, None, Result, Ok, Err}
use Rattle.words.specs.Words.{pick}
use Rattle.comparing.specs.declared.Wrong.{Wrong}
use Rattle.comparing.specs.declared.Wrong.TheVariants as wrong
use Rattle.comparing.specs.declared.Fault.{Fault}
use Rattle.comparing.specs.Kinds.{starts_group, is_event}
use Rattle.comparing.specs.Groups.{record_end, record_past}

abbrev pub wrong_number : Wrong → ℕ
wrong_number wrong.UnknownKind = 14
wrong_number wrong.CutShort = 15
wrong_number wrong.InsideGroup = 17

abbrev pub Told : Type 0
Told = Result ⊤ Fault

abbrev pub fine : Told
fine = Ok tt

abbrev pub fault : Wrong → ℕ → Told
fault w at = Err (record { wrong = w; place = at })

-- what is wrong with the record at a place: 14 before 15
unfoldable pub wrong_at : List ℕ → ℕ → Option Wrong
wrong_at s at = pick (is_event (get_or s at 0)) (pick (leb (record_end s at) (length s)) None (Some wrong.CutShort)) (Some wrong.UnknownKind)

abbrev pub unless_wrong : Option Wrong → ℕ → Told → Told
unless_wrong (Some w) at r = fault w at
unless_wrong None at r = r

-- the first record that is wrong, from a place on, n records at most
unfoldable pub scanned_from : ℕ → List ℕ → ℕ → Told
scanned_from zero s at = fine
scanned_from (suc n) s at = pick (ltb at (length s)) (unless_wrong (wrong_at s at) at (scanned_from n s (record_past s at))) fine

-- a record is a byte or more
unfoldable pub scanned : List ℕ → Told
scanned s = scanned_from (length s) s 0

-- "a log that begins inside a group": its first record starts none
abbrev pub inside : List ℕ → Told
inside [] = fine
inside (k ∷ s) = pick (starts_group k) fine (fault wrong.InsideGroup 0)

abbrev pub or_then : Told → Told → Told
or_then (Err f) r = Err f
or_then (Ok x) r = r

unfoldable pub checked : List ℕ → Told
checked s = or_then (scanned s) (inside s)
