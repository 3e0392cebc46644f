-- After l turns the lines below l are counted.
use Rattle.words.proofs.General.{Counted}
use Rattle.model.specs.SoundLent as is
use Rattle.model.proofs.Terms.{lines_of}
use Rattle.layout.specs.Held.{held}
use Rattle.soundness.proofs.dirty.dirty_lines.Given as goal

abbrev pub invariant-loop-l : goal.invariant-loop-l
invariant-loop-l l = Counted (held l.t is.dirty_line) (lines_of l.t.geometry.settings) l.l l.count
