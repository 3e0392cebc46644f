use Rattle.words.proofs.General.{rules}
use Rattle.probe.proofs.Ways.{by_mask}
use Rattle.probe.proofs.chosen_by_tree.Goals as goal

pub returns : goal.returns
returns c = search (rules, by_mask)
