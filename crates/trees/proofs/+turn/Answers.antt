use Rattle.words.proofs.General.{arith}
use Rattle.trees.proofs.Spans.{halved, halves_of}
use Rattle.trees.proofs.Steps.{turned_ends, turned-goes}
use Rattle.trees.proofs.+turn.Goals as goal

pub returns-then-width-eq1 : goal.returns-then-width-eq1
returns-then-width-eq1 t c = λ k e. let a = c.args in turned_ends c.if-width-eq1.true a.tree k a.node a.first a.way e

pub turn-requires : goal.turn-requires
turn-requires t c =
    let s = halves_of c.requires c.if-width-eq1.false in (omega (arith, s.narrower, c.decreases), s.below c.side_of-h.result c.side_of-h.ensures.0)

pub returns : goal.returns
returns t c = λ k e.
    let a = c.args in
    turned-goes (halved k e c.if-width-eq1.false) a.tree a.node a.first a.way c.side_of-h.ensures.1 c.point-next.ensures c.turn.ensures
