-- The measure is the span's width, which halves.
use Rattle.trees.proofs.+turn.Given as goal

abbrev pub decreases-turn : goal.decreases-turn
decreases-turn l = l.width
