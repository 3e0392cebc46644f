-- The entries in use, and the first of their sent marks that is set.
use Rattle.turns.proofs.Turns.{found_sent, found_none}
use Rattle.turns.proofs.first_sent.Goals as goal

pub returns-then-n-e : goal.returns-then-n-e
returns-then-n-e c = record { on = λ t i. found_none _ t i c.args.t.now.geometry.laid c.used-n.ensures c.find_mark-e.ensures c.if-n-e.true }

pub returns : goal.returns
returns c = record { on = λ t i. found_sent _ t i c.args.t.now.geometry.laid c.used-n.ensures c.find_mark-e.ensures c.if-n-e.false }
