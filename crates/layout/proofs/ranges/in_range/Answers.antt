use Rattle.words.proofs.General.{ap, not, rules}
use Rattle.layout.proofs.OfRange.{out_of_range, range-rest}
use Rattle.layout.proofs.ranges.in_range.Goals as goal

pub returns-then-not-power_to-s : goal.returns-then-not-power_to-s
returns-then-not-power_to-s c = out_of_range c.args.s _ c.power_to.ensures (ap not c.if-not-power_to-s.true)

pub returns : goal.returns
returns c = search (rules, range-rest)
