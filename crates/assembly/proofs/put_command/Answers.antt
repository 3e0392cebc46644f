-- `assembly::put_command` meets its contract.
use Rattle.words.proofs.General.{arith}
use Rattle.assembly.proofs.Placing.{placed-not, placed_there, placed-within}
use Rattle.assembly.proofs.put_command.Goals as goal

pub returns-then-n-eq0 : goal.returns-then-n-eq0
returns-then-n-eq0 c = search placed-not

pub overflow_add-result : goal.overflow_add-result
overflow_add-result c = let h = placed-within _ _ _ c.encode-n.ensures.stored c.if-n-eq0.false in omega arith

pub returns : goal.returns
returns c = search placed_there
