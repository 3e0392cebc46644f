-- By the set's tree, or by the cycles of the rule.
use Rattle.probe.proofs.Scans.{victim-turned, victim_aged}
use Rattle.probe.proofs.victim.Goals as goal

pub returns-then-s-eq-TREE : goal.returns-then-s-eq-TREE
returns-then-s-eq-TREE c =
    let a = c.args in
    let t = a.t.now in
    victim-turned t.geometry.settings t.words.now t.marks.now a.i a.base a.enough t.geometry.laid c.if-s-eq-TREE.true c.victim_by_tree.ensures

pub returns : goal.returns
returns c =
    let a = c.args in
    let t = a.t.now in
    victim_aged t.geometry.settings t.words.now t.marks.now a.i a.base a.enough c.if-s-eq-TREE.false c.ages_from-ages.ensures c.victim_by_age.ensures
