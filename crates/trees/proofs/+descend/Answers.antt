use Rattle.words.proofs.General.{arith}
use Rattle.model.proofs.Terms.{is_in}
use Rattle.trees.proofs.Spans.{halved, halves_of}
use Rattle.trees.proofs.Steps.{descent_ends, descent-goes}
use Rattle.trees.proofs.+descend.Goals as goal

pub returns-then-width-eq1 : goal.returns-then-width-eq1
returns-then-width-eq1 t c = λ k e. let a = c.args in descent_ends c.if-width-eq1.true (is_in a.candidates) a.tree k a.node a.first e

pub descend-requires : goal.descend-requires
descend-requires t c =
    let s = halves_of c.requires c.if-width-eq1.false in (omega (arith, s.narrower, c.decreases), s.below c.side-h.result c.side-h.ensures.0)

pub returns : goal.returns
returns t c = λ k e.
    let a = c.args in
    descent-goes (halved k e c.if-width-eq1.false) (is_in a.candidates) a.tree a.node a.first c.side-h.ensures.1 c.descend.ensures
