use Rattle.tables.proofs.FourBytes.{waiting_statuses}
use Rattle.tables.proofs.is_waiting.Goals as goal

pub returns : goal.returns
returns c =
    let a = c.args in rw c.statuses_at-x.ensures (waiting_statuses a.marks.now a.l (λ i. (c.type_inv.marks i).fits))
