use Rattle.layout.proofs.Stores.{one-put}
use Rattle.access.proofs.writes.write_tag.Goals as goal

pub returns : goal.returns
returns c = one-put _ _ _ c.requires
