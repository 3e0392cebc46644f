-- "A whole run": its stream, what is written, and the tables that are left.
use Rattle.std.specs.Prelude.{ℕ, true, List, [], ◌∷◌, ◌++◌, replicate}
use Rattle.model.specs.Tables.{Tables, empty, fresh}
use Rattle.model.specs.declared.Status.TheVariants.{Valid}

abbrev zeros : ℕ → List ℕ
zeros n = replicate n 0

-- "1 set, 2 ways, P 50, M 2, W 2, Q 4; read 0 ticket 7; read 0 ticket 9; send; fill 0"
abbrev pub stream : List ℕ
stream =
    (0x00 ∷ 1 ∷ 0 ∷ 2 ∷ 50 ∷ 2 ∷ 2 ∷ 4 ∷ [])
    ++ ((0x01 ∷ zeros 8) ++ (7 ∷ 0 ∷ 0 ∷ 0 ∷ []))
    ++ ((0x01 ∷ zeros 8) ++ (9 ∷ 0 ∷ 0 ∷ 0 ∷ []))
    ++ (0x03 ∷ [])
    ++ (0x04 ∷ zeros 8)

-- "`10 03 01 00`, `12` and eight `00`, `10 02 01 00`, `15` and eight `00`, `17` and eight `00`, `14 07 00 00 00`, `14 09 00 00 00`"
abbrev pub written : List ℕ
written =
    (0x10 ∷ 0x03 ∷ 0x01 ∷ 0x00 ∷ [])
    ++ (0x12 ∷ zeros 8)
    ++ (0x10 ∷ 0x02 ∷ 0x01 ∷ 0x00 ∷ [])
    ++ (0x15 ∷ zeros 8)
    ++ (0x17 ∷ zeros 8)
    ++ (0x14 ∷ 0x07 ∷ 0x00 ∷ 0x00 ∷ 0x00 ∷ [])
    ++ (0x14 ∷ 0x09 ∷ 0x00 ∷ 0x00 ∷ 0x00 ∷ [])

-- sector 0 has arrived in line 1; nothing waits
abbrev pub left_by_run : Tables
left_by_run = record {
  lines = fresh ∷ record { tag = 0; cycle = 0; taken = 0; sectors = record { status = Valid; mask = 0; readable = true } ∷ empty ∷ empty ∷ empty ∷ [] } ∷ [];
  misses = [];
  queue = [];
  now = 0;
  dirty_count = 0;
  trees = 0 ∷ [];
}
