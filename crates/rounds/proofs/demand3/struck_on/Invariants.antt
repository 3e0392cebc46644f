-- The loop over the struck rounds.
use Rattle.model.proofs.Terms.{lent}
use Rattle.rounds.proofs.Running.{Strikes}
use Rattle.rounds.proofs.demand3.struck_on.Given as goal

abbrev pub invariant-loop-flag : goal.invariant-loop-flag
invariant-loop-flag l =
    Strikes l.g.settings l.x l.flags (lent l.initial.longs l.initial.words l.initial.marks) l.initial.events (lent l.longs l.words l.marks) l.events l.flag-index l.out
