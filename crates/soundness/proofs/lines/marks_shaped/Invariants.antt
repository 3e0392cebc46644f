-- The status and the mark of each sector passed.
use Rattle.soundness.proofs.Tests.{Joined}
use Rattle.soundness.proofs.OfSectors.{marks_read}
use Rattle.soundness.proofs.lines.marks_shaped.Given as goal

abbrev pub invariant-loop-i : goal.invariant-loop-i
invariant-loop-i l = Joined (marks_read l.t.geometry.at l.t.marks.now) l.i-end l.i l.fine
