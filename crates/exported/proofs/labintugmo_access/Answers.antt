-- What the call leaves.
use Rattle.exported.proofs.labintugmo_access.Goals as goal

pub returns : goal.returns
returns c = rw c.access_for-x.ensures at c.made.ensures
