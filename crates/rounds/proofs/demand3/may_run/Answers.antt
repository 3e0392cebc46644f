-- Refusals 1, 2 and 3, then 4.
use Rattle.words.proofs.General.{arith, sym, ◌∙◌}
use Rattle.rounds.proofs.Starting.{start-passed}
use Rattle.rounds.proofs.demand3.may_run.Goals as goal

pub returns : goal.returns
returns c =
    start-passed _ _ _ c.checked_layout.ensures c.in_ok-g.was (λ i. omega (arith, c.type_inv.words i)) (sym c.well_formed-2.ensures.value ∙ c.if-not-well_formed.false) c.well_formed-2.ensures.x_bound
