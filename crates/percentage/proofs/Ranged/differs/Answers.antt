-- `percentage::Ranged::differs` meets its contract: it compares what the two callees ensure. Assumes nothing.
use Rattle.percentage.specs.Differences.{differ}
use Rattle.percentage.proofs.Ranged.differs.Goals as goal

pub returns : goal.returns
unfolding differ
returns c = cc
