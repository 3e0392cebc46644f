-- What is lifted stands there; the others are stored back, then the one.
use Rattle.words.proofs.General.{arith}
use Rattle.layout.proofs.Replaced.{lifted_stand, replaced}
use Rattle.layout.proofs.sectors.replace.Goals as goal

pub store_rest-requires : goal.store_rest-requires
store_rest-requires c =
    let a = c.args in
    let p = a.g.laid in
    let r = p.readables in
    ((omega arith, omega arith, omega arith), rw c.lift-found.ensures (lifted_stand a.g.settings p a.line a.words.now a.marks.now c.requires.3), c.requires.2)

pub returns : goal.returns
returns c =
    let a = c.args in
    let r = a.g.laid.readables in
    replaced a.g.settings a.g.at a.line a.k a.x a.words.now a.marks.now (omega arith, omega arith, omega arith) c.requires.2
    (rw c.lift-found.ensures at c.store_rest.ensures) c.store_one.ensures
