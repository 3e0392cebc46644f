-- The head of the queue, if there is one.
use Rattle.words.proofs.General.{arith}
use Rattle.reasons.proofs.Entries.{slices_fit}
use Rattle.reasons.proofs.Heads.{queue_empty, head_shown}
use Rattle.reasons.proofs.queue_reason.Goals as goal

pub used-n-requires : goal.used-n-requires
used-n-requires c = omega (arith, slices_fit c.requires, c.args.g.laid)

pub returns-then-n-eq0 : goal.returns-then-n-eq0
returns-then-n-eq0 c = record { on = λ t i. queue_empty _ t i c.args.g.laid c.used-n.ensures c.if-n-eq0.true }

pub front-requires : goal.front-requires
front-requires c = let z = slices_fit c.requires in let p = c.args.g.laid in (omega arith, omega arith, omega arith)

pub returns : goal.returns
returns c = search head_shown
