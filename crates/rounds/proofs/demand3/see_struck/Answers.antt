-- The offer only in a round that is marked.
use Rattle.words.proofs.General.{ne_eqb}
use Rattle.rounds.proofs.Showing.{struck_drains}
use Rattle.rounds.proofs.demand3.see_struck.Goals as goal

pub returns : goal.returns
returns c = search (struck_drains, ne_eqb)
