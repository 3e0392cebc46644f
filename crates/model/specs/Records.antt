-- "Records" at the current format: what RecordsOf defines over any, under the same names.
use Rattle.model.specs.declared.Body.{Body}
use Rattle.model.specs.declared.Stop.{Stop}
use Rattle.std.specs.Prelude.{ℕ, Bool, List, Option, Result}
use Rattle.model.specs.Format.{current}
use Rattle.model.specs.Format as format
use Rattle.model.specs.RecordsOf as records
use Rattle.model.specs.declared.Event.{Event}
use Rattle.model.specs.declared.Command.{Command}
unfoldable pub use Rattle.model.specs.RecordsOf.{bytes, no_kind, body_in, bytes_of, number_at, part, write_back_bytes, answered, refusals, refused_by, settings_in, rule_in, given_in, settings_kind, rule_bytes, given_bytes, record_at, body_of, before, next_of}
pub use Rattle.model.specs.RecordsOf.{Parsed, parsed, broken}
unfoldable pub use Rattle.model.specs.Format.{send_bytes, access_bytes}
pub use Rattle.model.specs.Format.{Kind}

abbrev pub command_kinds : List Kind
command_kinds = format.command_kinds current

abbrev pub event_kinds : List Kind
event_kinds = format.event_kinds current

abbrev pub length_of : ℕ → ℕ
length_of = records.length_of current

abbrev pub is_command : ℕ → Bool
is_command = records.is_command current

abbrev pub is_settings : ℕ → Bool
is_settings = records.is_settings current

abbrev pub record_kind_of : Event → ℕ
record_kind_of = records.record_kind_of current

abbrev pub body_bytes : Event → List ℕ
body_bytes = records.body_bytes current

abbrev pub event_bytes : Event → List ℕ
event_bytes = records.event_bytes current

abbrev pub log_bytes : List Event → List ℕ
log_bytes = records.log_bytes current

abbrev pub event_body : ℕ → List ℕ → Option Event
event_body = records.event_body current

abbrev pub event_of : ℕ → List ℕ → Option Event
event_of = records.event_of current

abbrev pub command_kind : Command → ℕ
command_kind = records.command_kind current

abbrev pub command_body : Command → List ℕ
command_body = records.command_body current

abbrev pub command_bytes : Command → List ℕ
command_bytes = records.command_bytes current

abbrev pub command_in : ℕ → List ℕ → Option Command
command_in = records.command_in current

abbrev pub command_of : ℕ → List ℕ → Option Command
command_of = records.command_of current

abbrev pub read_at : List ℕ → ℕ → Result Body Stop
read_at = records.read_at current

abbrev pub body_at : List ℕ → ℕ → List ℕ
body_at = records.body_at current

abbrev pub event_in : List ℕ → Result Body Stop → Option Event
event_in = records.event_in current

abbrev pub event_at : List ℕ → ℕ → Option Event
event_at = records.event_at current

abbrev pub command_at : List ℕ → ℕ → Option Command
command_at = records.command_at current

abbrev pub events_from : ℕ → List ℕ → ℕ → Parsed
events_from = records.events_from current

abbrev pub events_in : List ℕ → Parsed
events_in = records.events_in current

-- ---- rooms

abbrev pub wait_room : ℕ
wait_room = format.wait_room current

abbrev pub fill_bytes : ℕ
fill_bytes = format.fill_bytes current

abbrev pub settle_bytes : ℕ
settle_bytes = format.settle_bytes current

abbrev pub round_bytes : ℕ
round_bytes = format.round_bytes current
