-- The loop: the usual records, then one that is judged in full. What is left, run from here, gives what the whole gives, what is in use is
-- counted, and a turn that comes no further is followed by one that does.
use Rattle.words.proofs.General.{◌+◌, ◌-◌, length}
use Rattle.model.proofs.Terms.{lent}
use Rattle.running.specs.Resume.{WholeBelow, RunStands, UsedInMarks}
use Rattle.running.proofs.run_records.Given as goal

abbrev pub invariant-loop-here : goal.invariant-loop-here
invariant-loop-here l =
    RunStands l.g.settings l.stream l.initial.here.at l.initial.here.out l.initial.events (lent l.initial.longs l.initial.words l.initial.marks) l.here.at l.here.out l.events (lent l.longs l.words l.marks)
    × UsedInMarks l.g.settings l.g.at l.marks l.here.queued l.here.missed
    × WholeBelow l.stream l.here.at l.limit

-- the bytes that are left, and one more where the turn judges a record before it runs any
abbrev pub decreases-loop-here : goal.decreases-loop-here
decreases-loop-here l =
    length l.stream - l.here.at + (1 - (l.limit - l.here.at))
