-- Its pieces, one after another.
use Rattle.wording.proofs.events.put_back.Goals as goal

pub returns : goal.returns
returns c = rw (← c.dirty_bytes-n.ensures, ← c.plural.ensures) c.put_all.ensures
