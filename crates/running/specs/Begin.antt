-- The first record of a stream by itself: what it holds, unjudged; what it comes to on lent slices. "A stream starts with one kind 0, which
-- makes the lent tables fresh and writes no event".
use Rattle.std.specs.Prelude.{◌≡◌, ℕ, ◌+◌, Bool, false, not, ◌||◌, List, [], ◌∷◌, leb, eqb, length, Result, Ok, Err, Option, Some, None}
use Rattle.model.specs.declared.Refusal.{Refusal}
use Rattle.words.specs.Words.{pick}
use Rattle.model.specs.Numbers.{refusal_number}
use Rattle.model.specs.Tables.{start}
use Rattle.model.specs.Lent.{Lent, encode}
use Rattle.model.specs.Records.{is_command, length_of}
use Rattle.model.specs.Runner.{settings_of, settings_stop, record_stop, first_stop, goes_on}
use Rattle.model.specs.declared.Settings.{Settings}
use Rattle.model.specs.declared.Stop.{Stop}
use Rattle.model.specs.declared.Stop.TheVariants as stop

-- what the first record holds, unjudged, and what it comes to: its settings and where the next record begins, or why the run stops at it
abbrev pub Opening : Type 0
Opening = Result (Settings × ℕ) (Option Stop)

-- the checks before its settings are judged
abbrev pub first_head : ℕ → List ℕ → Option Stop
first_head k rest = record_stop k rest None (Some stop.OutOfPlace)

-- what it holds; with no byte there is none
unfoldable pub first_record : List ℕ → Opening
first_record [] = Err None
first_record (k ∷ bs) = pick (goes_on (first_head k bs)) (Ok (settings_of k bs, 1 + length_of k)) (Err (first_head k bs))

-- what it comes to on the slices L
abbrev pub begun_on : Lent → Opening → Opening
begun_on L (Ok (S, next)) = pick (goes_on (settings_stop S L)) (Ok (S, next)) (Err (settings_stop S L))
begun_on L (Err n) = Err n

-- the same of a stream, by the runner's checks
unfoldable pub beginning : Lent → List ℕ → Opening
beginning L [] = Err None
beginning L (k ∷ bs) = pick (goes_on (first_stop L k bs)) (Ok (settings_of k bs, 1 + length_of k)) (Err (first_stop L k bs))

-- "until it is accepted they are unchanged"
abbrev pub begun_tables : Lent → Opening → Lent
begun_tables L (Ok (S, next)) = encode S (start S)
begun_tables L (Err n) = L

pub record Begins (L : Lent) (s : List ℕ) (r : Opening) (M : Lent) : Type 0 where
  pub says : r ≡ beginning L s
  pub tables : M ≡ begun_tables L (beginning L s)

pub record Accepts (L : Lent) (x : Opening) (r : Opening) (M : Lent) : Type 0 where
  pub says : r ≡ begun_on L x
  pub tables : M ≡ begun_tables L (begun_on L x)

-- the stop of fresh tables that are refused, with 1 or 2
abbrev pub refused_stop : Refusal → Stop
refused_stop n = pick (eqb (refusal_number n) 1) stop.SettingOutOfRange stop.SliceLength

abbrev pub fresh_stop : Result (Unit {0}) Refusal → Option Stop
fresh_stop (Ok tt) = None
fresh_stop (Err n) = Some (refused_stop n)

-- it is all there, or its kind is no command's whatever follows
unfoldable pub first_there : List ℕ → Bool
first_there [] = false
first_there (k ∷ bs) = not (is_command k) || leb (length_of k) (length bs)
