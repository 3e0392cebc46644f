-- By the test of room: the records stored, or nothing.
use Rattle.records.proofs.Stores.{stored_there, stored-none}
use Rattle.records.proofs.encode.Goals as goal

pub returns-clause-stored : goal.returns-clause-stored
returns-clause-stored g c = search stored_there

pub returns-then-not-has_room-clause-stored : goal.returns-then-not-has_room-clause-stored
returns-then-not-has_room-clause-stored g c = stored-none _ _ _ c.size-n.ensures.0 c.has_room.ensures c.if-not-has_room.true
