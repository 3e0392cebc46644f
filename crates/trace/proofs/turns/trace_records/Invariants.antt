-- Each turn goes past a record, or is the last; the slices hold sound tables again after each.
use Rattle.words.proofs.General.{◌-◌, ◌≤◌, length}
use Rattle.model.proofs.Terms.{lent, SoundSlices}
use Rattle.input.specs.Buffers.{turns_left}
use Rattle.trace.proofs.turns.trace_records.Given as goal

abbrev pub invariant-loop-t : goal.invariant-loop-t
invariant-loop-t l = (l.t.at ≤ length l.bytes) × SoundSlices l.g.settings (lent l.longs l.words l.marks)

abbrev pub decreases-loop-t : goal.decreases-loop-t
decreases-loop-t l = turns_left l.t.more (length l.bytes - l.t.at)
