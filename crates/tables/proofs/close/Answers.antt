-- The later ones are copied down, and the places at the end filled.
use Rattle.tables.proofs.Closed.{closed_by}
use Rattle.tables.proofs.close.Goals as goal

pub returns : goal.returns
returns g c = let a = c.args in closed_by a.zero a.s.now a.from a.to a.by c.requires.within c.copy_within.ensures.after (c.fill.ensures.after c.requires.cloned.1)
