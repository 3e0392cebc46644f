-- Nothing without the room; else the step, and its events.
use Rattle.model.proofs.Terms.{offer, sending, filling, ticking}
use Rattle.encoding.proofs.ReplyShapes.{access_shaped, send_shaped, fill_shaped, tick_shaped}
use Rattle.exported.proofs.Calling.{step_made, held_as}
use Rattle.exported.proofs.unchecked.stepped.Goals as goal

pub put_access-requires : goal.put_access-requires
put_access-requires c = search (access_shaped, held_as)

pub put_sent-requires : goal.put_sent-requires
put_sent-requires c = search (send_shaped, held_as)

pub put_filled-requires : goal.put_filled-requires
put_filled-requires c = search (fill_shaped, held_as)

pub put_ticked-requires : goal.put_ticked-requires
put_ticked-requires c = search (tick_shaped, held_as)

pub returns-in-Offer : goal.returns-in-Offer
returns-in-Offer c =
    rw c.in-Offer.is
    (step_made (offer c.in-Offer.x) (rw c.in-Offer.is at c.requires.small) c.settings_from-s.ensures c.requires.held c.if-events-lt-EVENT_ROOM.false (rw c.new-g.ensures at c.access_step-reply.ensures) c.put_access.ensures)

pub returns-in-Send : goal.returns-in-Send
returns-in-Send c =
    rw c.in-Send.is
    (step_made sending tt c.settings_from-s.ensures c.requires.held c.if-events-lt-EVENT_ROOM.false (rw c.new-g.ensures at c.send_step-reply.ensures) c.put_sent.ensures)

pub returns-in-Fill : goal.returns-in-Fill
returns-in-Fill c =
    rw c.in-Fill.is
    (step_made (filling c.in-Fill.address) tt c.settings_from-s.ensures c.requires.held c.if-events-lt-EVENT_ROOM.false (rw c.new-g.ensures at c.fill_step-reply.ensures) c.put_filled.ensures)

pub returns-in-Tick : goal.returns-in-Tick
returns-in-Tick c =
    rw c.in-Tick.is
    (step_made (ticking c.in-Tick.cycle) tt c.settings_from-s.ensures c.requires.held c.if-events-lt-EVENT_ROOM.false c.tick_step-reply.ensures c.put_ticked.ensures)
