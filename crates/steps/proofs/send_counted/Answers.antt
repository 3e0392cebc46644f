-- Send, from what its parts ensure.
use Rattle.steps.proofs.Sending.{send-empty, send-asked, send-leaves}
use Rattle.words.proofs.General.{arith}
use Rattle.encoding.proofs.Bridge.{is_fit}
use Rattle.steps.proofs.send_counted.Goals as goal

pub returns-then-n-eq0 : goal.returns-then-n-eq0
returns-then-n-eq0 c = record { on = λ t i. send-empty _ t i c.args.g.laid c.requires.1 c.if-n-eq0.true c.refused.ensures }

pub front-head-requires : goal.front-head-requires
front-head-requires c = let fit = is_fit _ _ _ c.requires.0.are in omega arith

pub mark_head-requires-clause-in_bounds : goal.mark_head-requires-clause-in_bounds
mark_head-requires-clause-in_bounds c =
    let z = is_fit _ _ _ c.requires.0.are in (omega arith, omega arith)

pub mark_head-requires-clause-head_asked : goal.mark_head-requires-clause-head_asked
mark_head-requires-clause-head_asked c = send-asked _ _ c.requires.0.are c.args.g.laid c.requires.1 c.if-n-eq0.false c.front-head.ensures

pub pop-requires : goal.pop-requires
pop-requires c =
    let i = c.requires.0.are in let z = is_fit _ _ _ i in let p = c.args.g.laid in let u = c.requires.1 in let m = u.most in let k = c.mark_head.auto in let some = c.if-n-eq0.false in (omega arith, omega arith, omega arith, omega arith)

pub returns : goal.returns
returns c =
    record { on = λ t i. send-leaves _ t i c.args.g.laid c.requires.1 c.if-n-eq0.false c.front-head.ensures c.mark_head.ensures c.pop.ensures c.sent_event.ensures c.blank.ensures }
