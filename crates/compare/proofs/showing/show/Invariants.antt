-- `compare::showing::show` ends: each turn leaves less.
use Rattle.compare.specs.Turns.{left_in_pass}
use Rattle.compare.proofs.showing.show.Given as goal

abbrev pub decreases-loop-pass : goal.decreases-loop-pass
decreases-loop-pass l = left_in_pass l.pass
