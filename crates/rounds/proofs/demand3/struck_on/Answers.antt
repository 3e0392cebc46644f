-- The loop over the struck rounds.
use Rattle.rounds.proofs.Running.{strikes_first, strikes-end, strikes-again}
use Rattle.rounds.proofs.demand3.struck_on.Goals as goal

pub loop-flag-init : goal.loop-flag-init
loop-flag-init c = strikes_first _ _ _ _ c.requires.held _

pub loop-flag-preserved : goal.loop-flag-preserved
loop-flag-preserved c = search strikes-again

pub returns : goal.returns
returns c = search strikes-end
