-- As many as there are.
use Rattle.records.proofs.Reply.{take_least}
use Rattle.records.proofs.writer.first_of.Goals as goal

pub returns : goal.returns
returns g c = rw c.min.ensures (take_least c.args.count c.args.all.now)
