-- The check of a log that comes in parts, byte by byte. The numbers are of 64 bits, as the code's.
use Rattle.std.specs.Prelude.{ℕ, ◌+◌, ◌-◌, ◌%◌, ◌^◌, Bool, true, false, not, List, eqb, fold}
use Rattle.words.specs.Words.{pick}
use Rattle.model.specs.Records.{length_of}
use Rattle.comparing.specs.declared.Wrong.TheVariants as wrong
use Rattle.comparing.specs.declared.Checking.{Checking}
use Rattle.comparing.specs.Kinds.{starts_group, is_event}
use Rattle.comparing.specs.Checks.{Told, fine, fault}

abbrev pub check_beginning : Checking
check_beginning = record { passed = 0; place = 0; body = 0; wrong = false; inside = false }

-- "a log that begins inside a group": its first record starts none
unfoldable pub begun_inside : ℕ → Bool → ℕ → Bool
begun_inside passed inside k = pick (eqb passed 0) (not (starts_group k)) inside

-- a record of kind k begins
abbrev pub record_begun : Checking → ℕ → Checking
record_begun c k = record { passed = (c.passed + 1) % 2 ^ 64; place = c.passed; body = length_of k; wrong = false; inside = begun_inside c.passed c.inside k }

-- a record begins whose kind is no event's
abbrev pub stuck : Checking → Checking
stuck c = record { passed = c.passed; place = c.passed; body = 0; wrong = true; inside = c.inside }

-- a byte of the record's body
abbrev pub body_byte : Checking → Checking
body_byte c = record { passed = (c.passed + 1) % 2 ^ 64; place = c.place; body = c.body - 1; wrong = false; inside = c.inside }

unfoldable pub passed_byte : Checking → ℕ → Checking
passed_byte c k = pick c.wrong c (pick (eqb c.body 0) (pick (is_event k) (record_begun c k) (stuck c)) (body_byte c))

unfoldable pub passed_bytes : Checking → List ℕ → Checking
passed_bytes c s = fold passed_byte c s

-- where no more bytes come: a kind that is no event's; a record that is cut short; then what follows the last record
unfoldable pub fault_told : Checking → Told
fault_told c =
    pick c.wrong (fault wrong.UnknownKind c.place) (
    pick (eqb c.body 0) (
    pick c.inside (fault wrong.InsideGroup 0) fine)
    (fault wrong.CutShort c.place))
