-- `percentage::first_in_rows` meets its contract. Assumes nothing.
use Rattle.words.proofs.General.{arith, ◌∙◌}
use Rattle.percentage.proofs.Lists.{row_first, rows_over}
use Rattle.percentage.proofs.first_in_rows.Goals as goal

pub returns-in-Some : goal.returns-in-Some
returns-in-Some c =
    let h = c.in-Some.ensures in
    (h.0, c.loop-dirty.invariant ∙ row_first c.args.lines c.loop-dirty.dirty (omega arith) ∙ h.1)

pub loop-dirty-preserved : goal.loop-dirty-preserved
loop-dirty-preserved c = c.loop-dirty.invariant ∙ row_first c.args.lines c.loop-dirty.dirty (omega arith) ∙ c.in_default.ensures

pub returns : goal.returns
returns c = c.loop-dirty.invariant ∙ rows_over c.args.lines c.loop-dirty.dirty (omega arith)
