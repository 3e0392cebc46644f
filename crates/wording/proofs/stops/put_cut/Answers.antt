-- Its pieces, one after another.
use Rattle.wording.proofs.stops.put_cut.Goals as goal

pub returns : goal.returns
returns c = rw (← c.length_of.ensures) c.put_all.ensures
