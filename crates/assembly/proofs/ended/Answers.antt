-- `assembly::ended` meets its contract.
use Rattle.words.proofs.General.{sym, ◌∙◌}
use Rattle.assembly.specs.Language.{whole_line}
use Rattle.assembly.proofs.ended.Goals as goal

pub returns-then-ends_at : goal.returns-then-ends_at
unfolding whole_line
returns-then-ends_at c = rw (sym c.ends_at.ensures ∙ c.if-ends_at.true)

pub returns-else-ends_at : goal.returns-else-ends_at
unfolding whole_line
returns-else-ends_at c = rw (sym c.ends_at.ensures ∙ c.if-ends_at.false)
