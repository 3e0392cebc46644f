-- What a line makes of the bytes of a stream.
use Rattle.std.specs.Prelude.{ℕ, ◌+◌, ◌≡◌, Bool, List, length, Option, Some, None, Result, Ok, Err}
use Rattle.words.specs.Words.{pick}
use Rattle.model.specs.Records.{command_bytes}
use Rattle.words.specs.Regions.{room}
use Rattle.records.specs.Stores.{stored}
use Rattle.model.specs.declared.Command.{Command}
use Rattle.assembly.specs.declared.Expected.{Expected}
use Rattle.assembly.specs.declared.Refused.{Refused}
use Rattle.assembly.specs.declared.Refused.TheVariants.{NoRoom, Bad}

-- the answer, where the command's bytes want n places from index at on
abbrev pub placed : Bool → ℕ → Result ℕ Refused
placed fits next = pick fits (Ok next) (Err NoRoom)

-- l from index at on, before and after a line
unfoldable pub answer_to : Result (Option Command) Expected → List ℕ → ℕ → Result ℕ Refused
answer_to (Ok (Some c)) l at = placed (room l at (length (command_bytes c))) (at + length (command_bytes c))
answer_to (Ok None) l at = Ok at
answer_to (Err e) l at = Err (Bad e)

unfoldable pub left_by : Result (Option Command) Expected → List ℕ → ℕ → List ℕ
left_by (Ok (Some c)) l at = stored l at (command_bytes c)
left_by (Ok None) l at = l
left_by (Err e) l at = l

pub record Assembles (x : Result (Option Command) Expected) (l : List ℕ) (at : ℕ) (r : Result ℕ Refused) (m : List ℕ) : Type 0 where
  pub answer : r ≡ answer_to x l at
  pub left : m ≡ left_by x l at
