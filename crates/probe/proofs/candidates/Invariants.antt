use Rattle.words.proofs.General.{◌+◌}
use Rattle.model.proofs.TreeBits.{Masked}
use Rattle.probe.specs.Scan.{candidate_at}
use Rattle.probe.proofs.candidates.Given as goal

abbrev pub invariant-loop-w : goal.invariant-loop-w
invariant-loop-w l = Masked (λ v. candidate_at l.marks l.enough (l.base + v)) l.w l.mask
