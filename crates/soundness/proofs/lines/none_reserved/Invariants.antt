use Rattle.words.proofs.General.{◌+◌, not, eqb}
use Rattle.model.proofs.Terms.{status_at}
use Rattle.soundness.proofs.Tests.{Joined}
use Rattle.soundness.proofs.lines.none_reserved.Given as goal

abbrev pub invariant-loop-status : goal.invariant-loop-status
invariant-loop-status l = Joined (λ k. not (eqb (status_at l.marks (l.first + k)) 1)) 16 l.status-index l.none
