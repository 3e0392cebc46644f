-- The head, then what is asked behind it.
use Rattle.words.proofs.General.{ap, not, sym, ◌∙◌, true, false}
use Rattle.running.proofs.Checks.{found_stopped, found_asked}
use Rattle.running.proofs.record_stop.Goals as goal

pub returns-then-is_some : goal.returns-then-is_some
returns-then-is_some c = found_stopped _ _ _ _ c.head_stop-stop.ensures (ap not (sym c.is_some.ensures ∙ c.if-is_some.true))

pub returns-then-is_settings : goal.returns-then-is_settings
returns-then-is_settings c =
    found_asked {v = true} _ _ _ _ c.head_stop-stop.ensures (ap not (sym c.is_some.ensures ∙ c.if-is_some.false)) c.is_settings.ensures c.if-is_settings.true

pub returns-else-is_settings : goal.returns-else-is_settings
returns-else-is_settings c =
    found_asked {v = false} _ _ _ _ c.head_stop-stop.ensures (ap not (sym c.is_some.ensures ∙ c.if-is_some.false)) c.is_settings.ensures c.if-is_settings.false
