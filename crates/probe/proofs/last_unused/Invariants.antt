use Rattle.words.proofs.General.{◌+◌}
use Rattle.tables.specs.Raw.{unused_at}
use Rattle.probe.proofs.Scans.{Unseen}
use Rattle.probe.proofs.last_unused.Given as goal

abbrev pub invariant-loop-v : goal.invariant-loop-v
invariant-loop-v l = Unseen (λ v. unused_at l.marks (l.base + v)) l.ways l.v
