-- No command's kind; otherwise what reading it came to.
use Rattle.words.proofs.General.{ap, not}
use Rattle.running.proofs.Checks.{head_unknown, head_known}
use Rattle.running.proofs.head_stop.Goals as goal

pub returns-then-not-is_command : goal.returns-then-not-is_command
returns-then-not-is_command c = head_unknown _ _ c.is_command.ensures (ap not c.if-not-is_command.true)

pub returns : goal.returns
returns c = head_known _ _ c.is_command.ensures (ap not c.if-not-is_command.false) c.err.ensures.value
