-- "A whole run": the commands of document 01's example as bytes, and its 45 bytes of events, both ways; a stream that stops.
use Rattle.model.specs.RecordsOf.{whole_record}
use Rattle.std.specs.Prelude.{Option, Some, None, Err}
use Rattle.words.proofs.General.{ℕ, ◌≡◌, refl, List, [], ◌∷◌, ◌++◌, length}
use Rattle.model.specs.RecordsOf as records
use Rattle.model.proofs.Terms.{bytes_of, number_at, log_bytes, command_bytes, command_at, read_at, events_in, parsed}
use Rattle.model.specs.declared.Answer.TheVariants.{HitReserved, Miss}
use Rattle.model.specs.declared.Given.{Given}
use Rattle.model.specs.declared.Event.{Event}
use Rattle.model.specs.declared.Event.TheVariants as ev
use Rattle.model.specs.declared.Command.TheVariants as cmd
use Rattle.model.specs.declared.Stop.TheVariants.{UnknownKind, CutShort}

abbrev run_told : List Event
run_told = ev.Answered Miss 1 ∷ ev.ReadQueued 0 ∷ ev.Answered HitReserved 1 ∷ ev.ReadSent 0 ∷ ev.Filled 0 ∷ ev.Released 7 ∷ ev.Released 9 ∷ []

abbrev run_written : List ℕ
run_written =
    0x10 ∷ 3 ∷ 1 ∷ 0 ∷ 0x12 ∷ 0 ∷ 0 ∷ 0 ∷ 0 ∷ 0 ∷ 0 ∷ 0 ∷ 0 ∷ 0x10 ∷ 2 ∷ 1 ∷ 0 ∷ 0x15 ∷ 0 ∷ 0 ∷ 0 ∷ 0 ∷ 0 ∷ 0 ∷ 0 ∷ 0
    ∷ 0x17 ∷ 0 ∷ 0 ∷ 0 ∷ 0 ∷ 0 ∷ 0 ∷ 0 ∷ 0 ∷ 0x14 ∷ 7 ∷ 0 ∷ 0 ∷ 0 ∷ 0x14 ∷ 9 ∷ 0 ∷ 0 ∷ 0 ∷ []

run-written : log_bytes run_told ≡ run_written
unfolding records.log_bytes records.event_bytes bytes_of
run-written = refl

run_long : length run_written ≡ 45
run_long = refl

run-read : events_in run_written ≡ parsed run_told
unfolding records.events_in records.events_from records.event_at records.read_at records.event_of records.length_of number_at
run-read = refl

-- the settings of the example, with a rule byte and without one
abbrev example : Option ℕ → Given
example r = record { sets = 1; ways = 2; dirty = 50; misses = 2; readers = 2; queue = 4; rule = r }

abbrev commands : List ℕ
commands =
    command_bytes (cmd.Settings (example None))
    ++ (command_bytes (cmd.Read 0 7) ++ (command_bytes (cmd.Read 0 9) ++ (command_bytes cmd.Send ++ (command_bytes (cmd.Fill 0) ++ (command_bytes (cmd.Settings (example (Some 1))) ++ (0x12 ∷ 7 ∷ []))))))

-- the commands one after the other, the last a settings record with a rule byte; then an event's kind with its body cut short, and a kind in neither list
abbrev Commands_read : Type 0
Commands_read =
    (command_at commands 0 ≡ Some (cmd.Settings (example None)))
    × (command_at commands 8 ≡ Some (cmd.Read 0 7))
    × (command_at commands 21 ≡ Some (cmd.Read 0 9))
    × (command_at commands 34 ≡ Some cmd.Send)
    × (command_at commands 35 ≡ Some (cmd.Fill 0))
    × (read_at commands 35 ≡ whole_record 4 36 8 44)
    × (command_at commands 44 ≡ Some (cmd.Settings (example (Some 1))))
    × (read_at commands 53 ≡ Err CutShort)
    × (read_at commands 54 ≡ Err UnknownKind)
    × (read_at commands 55 ≡ Err CutShort)

commands-read : Commands_read
unfolding records.command_bytes bytes_of records.command_at records.command_of records.read_at records.length_of number_at
commands-read = (refl, refl, refl, refl, refl, refl, refl, refl, refl, refl)
