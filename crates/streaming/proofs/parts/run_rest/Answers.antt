-- Each turn keeps what the next one asks, and goes on from where the one before stood.
use Rattle.streaming.proofs.Turns.{start_came, next_came}
use Rattle.streaming.proofs.parts.run_rest.Goals as goal

pub loop-events-init : goal.loop-events-init
loop-events-init c = rw c.new-g.ensures (search start_came)

pub loop-events-preserved : goal.loop-events-preserved
loop-events-preserved c =
    let i = c.loop-events.invariant in
    (cc, cc, cc, cc, cc, c.turn-w.ensures.ready, c.turn-w.ensures.claims, next_came i.7 i.4 c.turn-w.ensures)
