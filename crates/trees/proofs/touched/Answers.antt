use Rattle.model.proofs.Terms.{levels}
use Rattle.model.proofs.Trees.{levels_are}
use Rattle.trees.proofs.Spans.{span_of}
use Rattle.trees.proofs.touched.Goals as goal

pub turn-requires : goal.turn-requires
turn-requires c = span_of c.args.ways c.requires

pub returns : goal.returns
returns c = c.turn.ensures (levels c.args.ways) (levels_are c.args.ways c.requires).0
