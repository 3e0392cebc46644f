-- Each turn reads, or is the last.
use Rattle.words.proofs.General.{◌≡◌, length}
use Rattle.input.specs.Buffers.{turns_left}
use Rattle.streaming.specs.Works.{reads_next}
use Rattle.streaming.specs.First.{Opened}
use Rattle.streaming.proofs.first.read_first.Given as goal

abbrev pub invariant-loop-to : goal.invariant-loop-to
invariant-loop-to l = (length l.buf ≡ length l.initial.buf) × Opened l.buf l.w

abbrev pub decreases-loop-to : goal.decreases-loop-to
decreases-loop-to l = turns_left (reads_next l.w.next) l.w.left
