-- Each turn reads, consumes what waits or is the last; each keeps what the next one asks, and goes on from where the one before stood.
use Rattle.words.proofs.General.{◌≡◌, length, take}
use Rattle.model.proofs.Terms.{lent}
use Rattle.streaming.specs.Works.{turns_of}
use Rattle.streaming.specs.Halts.{Claims}
use Rattle.streaming.specs.Parts.{Ready, Came}
use Rattle.streaming.proofs.parts.run_rest.Given as goal

abbrev pub invariant-loop-events : goal.invariant-loop-events
invariant-loop-events l =
    (length l.buf ≡ length l.initial.buf)
    × (length l.longs ≡ length l.initial.longs)
    × (length l.words ≡ length l.initial.words)
    × (length l.marks ≡ length l.initial.marks)
    × (length l.events ≡ 65536)
    × Ready l.g.settings l.scope (lent l.longs l.words l.marks) l.buf l.w
    × Claims l.w.next l.w.stop l.w.have
    × Came l.g.settings 65536 (lent l.initial.longs l.initial.words l.initial.marks) (take l.initial.w.have l.initial.buf) l.initial.w l.w (take l.w.have l.buf) (lent l.longs l.words l.marks)

abbrev pub decreases-loop-events : goal.decreases-loop-events
decreases-loop-events l = turns_of l.w.next l.w.have l.w.left
