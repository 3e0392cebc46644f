-- The loop over the usual records: the run so far, what is in use, and that it came further unless nothing was done.
use Rattle.words.proofs.General.{◌-◌, length}
use Rattle.model.proofs.Terms.{lent}
use Rattle.running.specs.Resume.{RunStands, UsedInMarks}
use Rattle.running.proofs.Turns.{Moved}
use Rattle.running.proofs.record.run_usual.Given as goal

abbrev pub invariant-loop-here : goal.invariant-loop-here
invariant-loop-here l =
    RunStands l.g.settings l.stream l.initial.here.at l.initial.here.out l.initial.events (lent l.initial.longs l.initial.words l.initial.marks) l.here.at l.here.out l.events (lent l.longs l.words l.marks)
    × UsedInMarks l.g.settings l.g.at l.marks l.here.queued l.here.missed
    × Moved l.initial.here.at l.initial.here.out l.here.at l.here.out

abbrev pub decreases-loop-here : goal.decreases-loop-here
decreases-loop-here l = length l.stream - l.here.at
