-- `comparing::compare_from` meets its contract: what is found from where the loop stands.
use Rattle.comparing.proofs.Firsts.{FindsPair, bytes_left}
use Rattle.comparing.proofs.compare_from.Given as goal

abbrev pub invariant-loop-c : goal.invariant-loop-c
invariant-loop-c l = FindsPair l.a l.b l.initial.c l.c

abbrev pub decreases-loop-c : goal.decreases-loop-c
decreases-loop-c l = bytes_left l.a l.b l.c
