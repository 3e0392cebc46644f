-- The numbers, and the rule behind them.
use Rattle.wording.proofs.Pieces.{puts_then}
use Rattle.wording.proofs.commands.put_settings.Goals as goal

pub returns : goal.returns
returns c = puts_then c.put_all-next.ensures c.put_rule.ensures
