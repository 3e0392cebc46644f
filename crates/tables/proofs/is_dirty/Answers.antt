use Rattle.tables.proofs.FourBytes.{dirty-statuses}
use Rattle.tables.proofs.is_dirty.Goals as goal

pub returns : goal.returns
returns c =
    let a = c.args in rw c.statuses_at-x.ensures (dirty-statuses a.marks.now a.l (λ i. (c.type_inv.marks i).fits))
