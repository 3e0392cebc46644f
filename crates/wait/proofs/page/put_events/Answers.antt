-- An event is gone past.
use Rattle.std.proofs.Common.{arith, sym, ◌∙◌}
use Rattle.records.proofs.Items.{item_past}
use Rattle.wait.proofs.page.put_events.Goals as goal

pub loop-event-smaller : goal.loop-event-smaller
loop-event-smaller c =
    let p = rw (sym c.item_at.ensures ∙ c.in-Event.is) at (item_past c.args.s.now c.loop-event.place) in
    omega (arith, p.0, p.1)
