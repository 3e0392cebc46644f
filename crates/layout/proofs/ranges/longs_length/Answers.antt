use Rattle.words.proofs.General.{arith}
use Rattle.model.proofs.Fits.{ranged}
use Rattle.layout.proofs.ranges.longs_length.Goals as goal

pub overflow_mul-result : goal.overflow_mul-result
overflow_mul-result c = let r = ranged _ c.requires in omega arith

pub overflow_add-result : goal.overflow_add-result
overflow_add-result c = let r = ranged _ c.requires in omega arith

pub overflow_add-result-2 : goal.overflow_add-result-2
overflow_add-result-2 c = let r = ranged _ c.requires in omega arith
