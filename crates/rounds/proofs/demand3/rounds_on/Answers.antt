-- The loop over the rounds: what is left, run from here, gives what all of them give.
use Rattle.rounds.proofs.Running.{runs_first, runs-end, runs-accepted, runs-again}
use Rattle.rounds.proofs.demand3.rounds_on.Goals as goal

pub loop-i-init : goal.loop-i-init
loop-i-init c = runs_first _ _ _ _ c.requires.held _ _

pub returns-then-made : goal.returns-then-made
returns-then-made c = search runs-accepted

pub loop-i-preserved : goal.loop-i-preserved
loop-i-preserved c = search runs-again

pub returns : goal.returns
returns c = search runs-end
