use Rattle.words.proofs.General.{arith, rules}
use Rattle.encoding.proofs.Bridge.{is_fit}
use Rattle.access.proofs.Plans.{found, joins_full, joins_room}
use Rattle.access.proofs.plan.join_plan.Goals as goal

pub find_entry-entry-requires : goal.find_entry-entry-requires
find_entry-entry-requires c = let pre = c.requires in let f = is_fit _ _ _ pre.0.is in let p = c.args.g.laid in omega (arith, pre.1.most)

pub bounds-marks-g : goal.bounds-marks-g
bounds-marks-g c =
    let pre = c.requires in let f = is_fit _ _ _ pre.0.is in let p = c.args.g.laid in
    let w = found _ pre.0.tables pre.0.is p _ pre.0.entered pre.1 c.find_entry-entry.ensures in
    omega (arith, pre.1.most, w.inside)

pub returns-then-g-count : goal.returns-then-g-count
returns-then-g-count c = search (rules, joins_full)

pub returns : goal.returns
returns c = search (rules, joins_room)
