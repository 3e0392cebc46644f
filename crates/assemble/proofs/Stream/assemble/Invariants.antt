-- Each turn reads: fewer bytes may come then.
use Rattle.assemble.proofs.Stream.assemble.Given as goal

abbrev pub decreases-loop-more : goal.decreases-loop-more
decreases-loop-more l = l.left
