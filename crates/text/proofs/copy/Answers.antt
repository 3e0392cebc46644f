-- All of the text, written over as many places.
use Rattle.words.proofs.General.{arith}
use Rattle.text.proofs.Puts.{mid_sets}
use Rattle.text.proofs.copy.Goals as goal

pub returns : goal.returns
returns c = mid_sets _ _ _ c.copy_from_slice.ensures.after (omega arith) (omega arith)
