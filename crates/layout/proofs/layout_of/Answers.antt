-- The offsets do not wrap: the settings are in range.
use Rattle.words.proofs.General.{mul-le-mul, arith}
use Rattle.model.proofs.Fits.{ranged}
use Rattle.layout.proofs.layout_of.Goals as goal

pub overflow_mul-lines : goal.overflow_mul-lines
overflow_mul-lines c = let g = ranged _ c.requires in omega arith

pub overflow_mul-tickets : goal.overflow_mul-tickets
overflow_mul-tickets c = let g = ranged _ c.requires in omega arith

pub overflow_add-tickets : goal.overflow_add-tickets
overflow_add-tickets c = let g = ranged _ c.requires in omega arith

pub overflow_mul-backs : goal.overflow_mul-backs
overflow_mul-backs c = let g = ranged _ c.requires in omega (arith, mul-le-mul g.readers g.misses)

pub overflow_add-backs : goal.overflow_add-backs
overflow_add-backs c = let g = ranged _ c.requires in omega (arith, mul-le-mul g.readers g.misses)

pub overflow_mul-dirty : goal.overflow_mul-dirty
overflow_mul-dirty c = let g = ranged _ c.requires in omega arith

pub overflow_add-dirty : goal.overflow_add-dirty
overflow_add-dirty c = let g = ranged _ c.requires in omega (arith, mul-le-mul g.readers g.misses)

pub overflow_add-taken : goal.overflow_add-taken
overflow_add-taken c = let g = ranged _ c.requires in omega (arith, mul-le-mul g.readers g.misses)

pub overflow_mul-sent : goal.overflow_mul-sent
overflow_mul-sent c = let g = ranged _ c.requires in omega arith

pub overflow_add-result : goal.overflow_add-result
overflow_add-result c = let g = ranged _ c.requires in omega arith

pub overflow_add-result-2 : goal.overflow_add-result-2
overflow_add-result-2 c = let g = ranged _ c.requires in omega arith

pub overflow_add-result-3 : goal.overflow_add-result-3
overflow_add-result-3 c = let g = ranged _ c.requires in omega (arith, mul-le-mul g.readers g.misses)

pub overflow_mul-result : goal.overflow_mul-result
overflow_mul-result c = let g = ranged _ c.requires in omega arith

pub overflow_add-result-4 : goal.overflow_add-result-4
overflow_add-result-4 c = let g = ranged _ c.requires in omega arith

pub overflow_mul-result-2 : goal.overflow_mul-result-2
overflow_mul-result-2 c = let g = ranged _ c.requires in omega arith

pub overflow_add-result-5 : goal.overflow_add-result-5
overflow_add-result-5 c = let g = ranged _ c.requires in omega arith
