use Rattle.access.proofs.writes.mark_set.Goals as goal

pub returns : goal.returns
returns c = cc
