-- `percentage::first_in_tables` meets its contract. Assumes nothing.
use Rattle.words.proofs.General.{arith, ◌∙◌}
use Rattle.percentage.proofs.Lists.{table_first, tables_over}
use Rattle.percentage.proofs.first_in_tables.Goals as goal

pub returns-in-Some : goal.returns-in-Some
returns-in-Some c =
    let h = c.in-Some.ensures in
    (h.0, c.loop-lines.invariant ∙ table_first c.loop-lines.lines (omega arith) ∙ h.1)

pub loop-lines-preserved : goal.loop-lines-preserved
loop-lines-preserved c = c.loop-lines.invariant ∙ table_first c.loop-lines.lines (omega arith) ∙ c.in_default.ensures

pub returns : goal.returns
returns c = c.loop-lines.invariant ∙ tables_over c.loop-lines.lines (omega arith)
