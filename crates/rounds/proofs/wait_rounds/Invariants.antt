-- The loop over the rounds: what is left, run from here, gives what all of them give.
use Rattle.model.proofs.Terms.{lent}
use Rattle.rounds.proofs.Settling.{RoundsStand}
use Rattle.rounds.proofs.wait_rounds.Given as goal

abbrev pub invariant-loop-before : goal.invariant-loop-before
invariant-loop-before l =
    RoundsStand l.g.settings l.x l.most (lent l.initial.longs l.initial.words l.initial.marks) l.initial.events l.before l.out (lent l.longs l.words l.marks) l.events
