-- Down the ways with the best so far: a way takes its place with an earlier or the same cycle, if it is a candidate.
use Rattle.words.proofs.General.{◌+◌, get_or}
use Rattle.tables.specs.Raw.{unused_at}
use Rattle.probe.specs.Scan.{candidate_at}
use Rattle.probe.proofs.Scans.{Leads}
use Rattle.probe.proofs.victim_by_age.Given as goal

abbrev pub invariant-loop-w : goal.invariant-loop-w
invariant-loop-w l =
    Leads (λ v. unused_at l.marks (l.base + v)) (λ v. candidate_at l.marks l.enough (l.base + v)) (λ v. get_or l.words (l.ages + (l.base + v)) 0) l.ways l.w l.best l.cycle
