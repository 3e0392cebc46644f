-- `percentage::Ranged::whole_meets` meets its contract: the products are at most 102,400. Assumes nothing.
use Rattle.words.proofs.General.{sym}
use Rattle.percentage.proofs.Laws.{whole_is}
use Rattle.percentage.proofs.Ranged.whole_meets.Goals as goal

pub returns : goal.returns
returns c = sym (whole_is _ _ _)
