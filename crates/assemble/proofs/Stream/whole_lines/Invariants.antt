-- Each turn goes past the end of a line.
use Rattle.std.proofs.Common.{length}
use Rattle.assemble.proofs.Stream.whole_lines.Given as goal

abbrev pub decreases-loop-end : goal.decreases-loop-end
decreases-loop-end l = length l.rest
