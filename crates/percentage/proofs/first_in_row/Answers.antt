-- `percentage::first_in_row` meets its contract. Assumes nothing.
use Rattle.words.proofs.General.{arith, sym, ◌∙◌}
use Rattle.percentage.proofs.Lists.{row_hit, row_miss, row_over}
use Rattle.percentage.proofs.first_in_row.Goals as goal

pub returns-then-differs : goal.returns-then-differs
returns-then-differs c =
    (omega arith, c.loop-percent.invariant ∙ row_hit c.args.lines c.args.dirty c.loop-percent.percent (omega arith) (sym c.differs.ensures ∙ c.if-differs.true))

pub loop-percent-preserved : goal.loop-percent-preserved
loop-percent-preserved c =
    c.loop-percent.invariant ∙ row_miss c.args.lines c.args.dirty c.loop-percent.percent (omega arith) (sym c.differs.ensures ∙ c.if-differs.false)

pub returns : goal.returns
returns c = c.loop-percent.invariant ∙ row_over c.args.lines c.args.dirty c.loop-percent.percent (omega arith)
