use Rattle.words.proofs.General.{◌/◌, ◌^◌, ◌-◌}
use lib.Bits.{and_mask}
use Rattle.model.proofs.Terms.{tree_bit}
use Rattle.trees.proofs.named_half.Goals as goal

pub returns : goal.returns
unfolding tree_bit
returns c = and_mask (c.args.tree / 2 ^ (c.args.node - 1)) 1
