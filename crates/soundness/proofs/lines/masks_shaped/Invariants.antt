-- The mask of each sector passed.
use Rattle.soundness.proofs.Tests.{Joined}
use Rattle.soundness.proofs.OfSectors.{mask_read}
use Rattle.soundness.proofs.lines.masks_shaped.Given as goal

abbrev pub invariant-loop-i : goal.invariant-loop-i
invariant-loop-i l = Joined (mask_read l.at l.words l.marks) l.i-end l.i l.fine
