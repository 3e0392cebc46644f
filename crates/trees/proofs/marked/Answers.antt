use Rattle.words.proofs.General.{ℕ, ap, ◌∙◌}
use lib.Bits.{bit_or}
use Rattle.model.proofs.TreeBits.{or_puts}
use Rattle.trees.proofs.Spans.{one_shifted}
use Rattle.trees.proofs.marked.Goals as goal

pub returns : goal.returns
returns c = ap (λ (x : ℕ). bit_or c.args.candidates x) (one_shifted c.requires) ∙ or_puts c.args.candidates c.args.way
