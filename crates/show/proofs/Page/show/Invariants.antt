-- Each turn reads: fewer bytes may come then.
use Rattle.show.proofs.Page.show.Given as goal

abbrev pub decreases-loop-more : goal.decreases-loop-more
decreases-loop-more l = l.left
