-- A hit; or by its plan, refused or acted.
use Rattle.words.proofs.General.{arith, refl, rules, told-yes}
use Rattle.encoding.proofs.Bridge.{is_fit}
use Rattle.access.proofs.Changes.{set_room}
use Rattle.access.proofs.Hits.{hit_offered}
use Rattle.access.proofs.Offering.{may_act, offered_acted, offered-refused}
use Rattle.std.proofs.lemmas.Result.{err_from_is_err_and}
use Rattle.access.proofs.offer_read.Goals as goal

pub act_hit-requires : goal.act_hit-requires
act_hit-requires c =
    let m = c.requires.placed.meets.met in
    let fit = is_fit _ _ _ m.is in
    let room = set_room _ _ _ _ _ m c.args.g.laid refl in
    (omega (arith, m.below), omega (arith, m.below), room.1)

pub returns-then-is_hit : goal.returns-then-is_hit
returns-then-is_hit c = search (rules, hit_offered, told-yes)

pub returns-in_err-plan : goal.returns-in_err-plan
returns-in_err-plan c =
    let p = err_from_is_err_and c.from_residual.result c.from_residual.ensures.1 in rw (p.1, p.2) (offered-refused _ c.in_err-plan.ensures)

pub act_read-requires-clause-acts : goal.act_read-requires-clause-acts
act_read-requires-clause-acts c = may_act c.args.g.laid c.requires.placed.queued c.in_ok-plan.ensures c.requires.placed.meets

pub returns : goal.returns
returns c = offered_acted c.args.g.laid c.requires.placed.queued c.in_ok-plan.ensures c.act_read.ensures
