-- No kind at all, or an event.
use Rattle.words.proofs.General.{eq-eqb, ne_eqb}
use Rattle.wording.proofs.Pieces.{puts_then}
use Rattle.wording.proofs.stops.put_unknown.Goals as goal

pub returns-then-length_of-eq255 : goal.returns-then-length_of-eq255
returns-then-length_of-eq255 c = rw (← c.length_of.ensures, eq-eqb _ _ c.if-length_of-eq255.true) c.put_all-next.ensures

pub returns : goal.returns
returns c = rw (← c.length_of.ensures, ne_eqb _ _ c.if-length_of-eq255.false) (puts_then c.put_all-next.ensures c.put_all.ensures)
