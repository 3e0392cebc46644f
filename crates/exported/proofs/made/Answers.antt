-- Nothing without the room; else the call, and its events.
use Rattle.cache.specs.Made.{model_call}
use Rattle.exported.proofs.Calling.{call_made}
use Rattle.exported.proofs.made.Goals as goal

pub returns : goal.returns
returns c =
    call_made (model_call c.args.k) c.words_fit.ensures c.settings_from-s.ensures c.if-events-lt-EVENT_ROOM.false c.perform-reply.ensures
    c.encode.ensures.stored
