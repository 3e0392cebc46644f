-- A range that is a part of the text, and one that is none.
use Rattle.std.proofs.Common.{arith}
use Rattle.std.proofs.lemmas.Grind.{common_steps}
use Rattle.text.specs.Words.{part_of}
use Rattle.text.proofs.part.Goals as goal

pub returns : goal.returns
unfolding part_of
returns c = grind (arith, common_steps)
