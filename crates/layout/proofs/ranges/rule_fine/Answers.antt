use Rattle.words.proofs.General.{◌∙◌}
use Rattle.layout.proofs.OfRange.{power_16_is}
use Rattle.layout.proofs.ranges.rule_fine.Goals as goal

pub returns : goal.returns
returns c = rw (c.power_to.ensures ∙ power_16_is c.args.s.ways)
