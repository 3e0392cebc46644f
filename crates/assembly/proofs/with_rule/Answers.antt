-- No word is left, or a rule is there, or the line is bad for want of it.
use Rattle.words.proofs.General.{sym, ◌∙◌}
use Rattle.std.proofs.lemmas.Result.{err_from_is_err_and}
use Rattle.assembly.specs.Language.{with_rule}
use Rattle.assembly.proofs.with_rule.Goals as goal

pub returns-then-ends_at : goal.returns-then-ends_at
unfolding with_rule
returns-then-ends_at c = rw (sym c.ends_at.ensures ∙ c.if-ends_at.true)

pub returns-in_err-rule : goal.returns-in_err-rule
unfolding with_rule
returns-in_err-rule c =
    let p = err_from_is_err_and c.from_residual.result c.from_residual.ensures.1 in
    rw (p.1, p.2, sym c.ends_at.ensures ∙ c.if-ends_at.false, sym c.in_err-rule.ensures.value)

pub returns : goal.returns
unfolding with_rule
returns c = rw (sym c.ends_at.ensures ∙ c.if-ends_at.false, sym c.in_ok-rule.ensures.value) c.ended.ensures
