-- An event is a byte or more, and lies within the bytes.
use Rattle.words.proofs.General.{arith, sym, ◌∙◌}
use Rattle.records.proofs.Items.{item_past}
use Rattle.trace.proofs.page.put_events.Goals as goal

pub loop-event-smaller : goal.loop-event-smaller
loop-event-smaller c =
    let p = rw (sym c.item_at.ensures ∙ c.in-Event.is) at (item_past c.args.s.now c.loop-event.place) in omega arith
