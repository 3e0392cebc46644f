-- No queue place is in use.
use Rattle.rounds.proofs.Showing.{queueless}
use Rattle.rounds.proofs.demand3.nothing_queued.Goals as goal

pub returns : goal.returns
returns c = queueless _ c.requires c.args.t.now.geometry.laid c.used-n.ensures
