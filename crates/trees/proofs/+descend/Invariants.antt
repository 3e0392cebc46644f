-- The measure is the span's width, which halves.
use Rattle.trees.proofs.+descend.Given as goal

abbrev pub decreases-descend : goal.decreases-descend
decreases-descend l = l.width
