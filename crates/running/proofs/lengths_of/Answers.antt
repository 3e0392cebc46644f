-- Settings outside their ranges, and in range.
use Rattle.words.proofs.General.{true, false, said_no, said_yes}
use Rattle.running.proofs.Asked.{lengths_by}
use Rattle.running.proofs.lengths_of.Goals as goal

pub returns-then-not-in_range : goal.returns-then-not-in_range
returns-then-not-in_range c = search (lengths_by {v = false}, said_no)

pub returns : goal.returns
returns c = lengths_by {v = true} _ (cc) (search said_yes)
