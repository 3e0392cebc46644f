-- The loop over the rounds: what is left, run from here, gives what all of them give.
use Rattle.words.proofs.General.{arith}
use Rattle.turns.proofs.Noting.{accepted_says, refused_says}
use Rattle.rounds.proofs.Settling.{rounds_stand_first, rounds-stand-again, goes-accepted, held_fits, goes-held-end}
use Rattle.rounds.proofs.wait_rounds.Goals as goal

pub loop-before-init : goal.loop-before-init
loop-before-init c = rounds_stand_first _ _

pub returns-then-accepted : goal.returns-then-accepted
returns-then-accepted c =
    let pre = c.requires in
    search (goes-accepted, accepted_says)

pub loop-before-preserved : goal.loop-before-preserved
loop-before-preserved c = search (rounds-stand-again, refused_says)

pub overflow_add-result : goal.overflow_add-result
overflow_add-result c =
    omega (arith, held_fits c.loop-before.invariant c.loop-before-test.false c.requires.x_value.0 c.requires.enough c.requires.x_value.2 c.refused.ensures c.encode-n.ensures.stored)

pub returns : goal.returns
returns c = search goes-held-end
