-- The loop over the rounds: what is left, run from here, gives what all of them give.
use Rattle.model.proofs.Terms.{lent}
use Rattle.rounds.proofs.Running.{RoundsRun}
use Rattle.rounds.proofs.demand3.rounds_on.Given as goal

abbrev pub invariant-loop-i : goal.invariant-loop-i
invariant-loop-i l =
    RoundsRun l.g.settings l.x l.n (lent l.initial.longs l.initial.words l.initial.marks) l.initial.flags l.initial.events (lent l.longs l.words l.marks) l.flags l.events l.i l.out
