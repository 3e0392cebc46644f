-- Sets, or those behind it.
use Rattle.words.proofs.General.{sym, ◌∙◌}
use Rattle.layout.proofs.OfRange.{power_is}
use Rattle.wording.proofs.settings.put_first.Goals as goal

pub returns-then-power_to : goal.returns-then-power_to
returns-then-power_to c = rw (← c.read-sets.ensures, sym (c.power_to.ensures ∙ power_is _) ∙ c.if-power_to.true) c.put_ranged.ensures

pub returns : goal.returns
returns c = rw (← c.read-sets.ensures, sym (c.power_to.ensures ∙ power_is _) ∙ c.if-power_to.false) c.put_all.ensures
