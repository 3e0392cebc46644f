-- `comparing::is_event` meets its contract.
use Rattle.comparing.proofs.Table.{event_kinds_lem}
use Rattle.comparing.proofs.is_event.Goals as goal

pub returns-then-not-is_command : goal.returns-then-not-is_command
returns-then-not-is_command c = rw (← event_kinds_lem, ← c.is_command.ensures, c.if-not-is_command.true, ← c.length_of.ensures)

pub returns-else-not-is_command : goal.returns-else-not-is_command
returns-else-not-is_command c = rw (← event_kinds_lem, ← c.is_command.ensures, c.if-not-is_command.false)
