use Rattle.words.proofs.General.{arith}
use Rattle.model.proofs.Fits.{ranged, sets_most}
use Rattle.layout.proofs.OfRange.{tickets_most}
use Rattle.layout.proofs.ranges.words_length.Goals as goal

pub overflow_mul-lines : goal.overflow_mul-lines
overflow_mul-lines c = let r = ranged _ c.requires in omega arith

pub overflow_mul-result : goal.overflow_mul-result
overflow_mul-result c = let r = ranged _ c.requires in omega arith

pub overflow_add-result : goal.overflow_add-result
overflow_add-result c = let r = ranged _ c.requires in omega arith

pub overflow_mul-result-2 : goal.overflow_mul-result-2
overflow_mul-result-2 c = let r = ranged _ c.requires in omega (arith, tickets_most _ c.requires)

pub overflow_add-result-2 : goal.overflow_add-result-2
overflow_add-result-2 c = let r = ranged _ c.requires in omega (arith, tickets_most _ c.requires)

pub overflow_mul-result-3 : goal.overflow_mul-result-3
overflow_mul-result-3 c = let r = ranged _ c.requires in omega arith

pub overflow_add-result-3 : goal.overflow_add-result-3
overflow_add-result-3 c = let r = ranged _ c.requires in omega (arith, tickets_most _ c.requires)

pub overflow_add-result-4 : goal.overflow_add-result-4
overflow_add-result-4 c = let r = ranged _ c.requires in omega (arith, tickets_most _ c.requires)

pub overflow_add-result-5 : goal.overflow_add-result-5
overflow_add-result-5 c = let r = ranged _ c.requires in omega (arith, tickets_most _ c.requires)

pub overflow_add-result-6 : goal.overflow_add-result-6
overflow_add-result-6 c = let r = ranged _ c.requires in omega (arith, tickets_most _ c.requires, sets_most _ c.requires)
