-- `compare::turns::Pass::turn`: a turn by the next step goes on.
use Rattle.words.proofs.General.{refl, ap, ◌∙◌}
use Rattle.comparing.specs.declared.Step.TheVariants as step
use Rattle.compare.proofs.Turning.{row-fits, first_read, second_read, row-taken, pair-taken, over-taken}
use Rattle.compare.proofs.turns.Pass.turn.Goals as goal

pub returns-in-First-clause-comes : goal.returns-in-First-clause-comes
returns-in-First-clause-comes c =
    (first_read _ _ c.requires _ (c.in-Wants.is ∙ ap step.Wants c.in-First.is) c.read_on.ensures refl refl).comes

pub returns-in-First-clause-less_left : goal.returns-in-First-clause-less_left
returns-in-First-clause-less_left c =
    (first_read _ _ c.requires _ (c.in-Wants.is ∙ ap step.Wants c.in-First.is) c.read_on.ensures refl refl).less

pub returns-in-Second-clause-comes : goal.returns-in-Second-clause-comes
returns-in-Second-clause-comes c =
    (second_read _ _ c.requires _ (c.in-Wants.is ∙ ap step.Wants c.in-Second.is) c.read_on-in-Second.ensures refl refl).comes

pub returns-in-Second-clause-less_left : goal.returns-in-Second-clause-less_left
returns-in-Second-clause-less_left c =
    (second_read _ _ c.requires _ (c.in-Wants.is ∙ ap step.Wants c.in-Second.is) c.read_on-in-Second.ensures refl refl).less

pub pass-requires : goal.pass-requires
pass-requires c = (row-fits c.args.self.now c.in-Row.is c.requires).0

pub pass-requires-in-Row : goal.pass-requires-in-Row
pass-requires-in-Row c = (row-fits c.args.self.now c.in-Row.is c.requires).1

pub returns-in-Row-clause-comes : goal.returns-in-Row-clause-comes
returns-in-Row-clause-comes c = (row-taken _ _ c.requires c.in-Row.is c.pass.ensures c.pass-in-Row.ensures refl).comes

pub returns-in-Row-clause-less_left : goal.returns-in-Row-clause-less_left
returns-in-Row-clause-less_left c = (row-taken _ _ c.requires c.in-Row.is c.pass.ensures c.pass-in-Row.ensures refl).less

pub returns-in-Pair-clause-comes : goal.returns-in-Pair-clause-comes
returns-in-Pair-clause-comes c = (pair-taken _ _ c.requires c.in-Pair.is refl refl refl).comes

pub returns-in-Pair-clause-less_left : goal.returns-in-Pair-clause-less_left
returns-in-Pair-clause-less_left c = (pair-taken _ _ c.requires c.in-Pair.is refl refl refl).less

pub returns-in-Over-clause-comes : goal.returns-in-Over-clause-comes
returns-in-Over-clause-comes c = (over-taken _ _ c.requires c.in-Over.is refl).comes
