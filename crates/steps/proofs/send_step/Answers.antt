-- The count is what the search finds.
use Rattle.words.proofs.General.{arith}
use Rattle.encoding.proofs.Bridge.{is_fit}
use Rattle.steps.proofs.send_step.Goals as goal

pub used-n-requires : goal.used-n-requires
used-n-requires c = let fit = is_fit _ _ _ c.requires.are in omega arith
