-- Either half keeps what the next turn asks.
use Rattle.words.proofs.General.{arith, sym, ◌∙◌, length-take-le}
use Rattle.streaming.proofs.Turns.{next_by, ran_turned, read-turned}
use Rattle.streaming.proofs.parts.turn.Goals as goal

pub returns-then-reads : goal.returns-then-reads
returns-then-reads c =
    read-turned c.requires.ready ((next_by _ c.requires.next_value).0 (sym c.reads.ensures ∙ c.if-reads.true)) c.read_part.auto.buf _ c.read_part.ensures

pub returns-else-reads : goal.returns-else-reads
returns-else-reads c =
    let y = c.requires.ready in
    ran_turned c.run_part.ensures y.held c.requires.event_room_in_bounds (omega (arith, y.roomy, c.run_part.auto.buf)) (length-take-le _ _ y.inside) y.counted
    ((next_by _ c.requires.next_value).1 (sym c.reads.ensures ∙ c.if-reads.false))
