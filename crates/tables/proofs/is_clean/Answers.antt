use Rattle.tables.proofs.FourBytes.{clean-statuses}
use Rattle.tables.proofs.is_clean.Goals as goal

pub returns : goal.returns
returns c = let a = c.args in rw c.statuses_at.ensures (clean-statuses a.marks.now a.l (λ i. (c.type_inv.marks i).fits))
