-- What is left of the rounds, run from here, gives what all of them give.
use Rattle.words.proofs.General.{arith, sym, ◌∙◌, not_yes}
use Rattle.turns.proofs.Noting.{refused_says}
use Rattle.rounds.proofs.Settling.{rounds_stand_first, rounds-stand-again}
use Rattle.wait.proofs.Verdicts.{ends_accepted, ends_held}
use Rattle.wait.proofs.waiting.wait_rounds.Goals as goal

pub loop-before-init : goal.loop-before-init
loop-before-init c = rounds_stand_first _ _

pub returns-then-accepted : goal.returns-then-accepted
returns-then-accepted c =
    ends_accepted c.loop-before.invariant c.requires.held c.requires.x_value.0 c.requires.enough c.loop-before-test.true c.one_round-made.ensures
    (not_yes (sym c.accepted.ensures ∙ c.if-accepted.true)) (omega arith)

pub loop-before-preserved : goal.loop-before-preserved
loop-before-preserved c = search (rounds-stand-again, refused_says)

pub returns : goal.returns
returns c = search ends_held
