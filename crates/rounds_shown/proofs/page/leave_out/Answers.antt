-- An event is gone past, whether it is left out or not.
use Rattle.std.proofs.Common.{arith, sym, ◌∙◌}
use Rattle.records.proofs.Items.{item_past}
use Rattle.rounds_shown.proofs.page.leave_out.Goals as goal

pub loop-event-smaller-then-not-matches : goal.loop-event-smaller-then-not-matches
loop-event-smaller-then-not-matches c =
    let p = rw (sym c.item_at.ensures ∙ c.in-Event.is) at (item_past c.args.s.now c.loop-event.at) in
    omega (arith, p.0, p.1)

pub loop-event-smaller : goal.loop-event-smaller
loop-event-smaller c =
    let p = rw (sym c.item_at.ensures ∙ c.in-Event.is) at (item_past c.args.s.now c.loop-event.at) in
    omega (arith, p.0, p.1)
