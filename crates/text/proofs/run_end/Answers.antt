-- The run from `at` on ends where the run from `i` on does.
use Rattle.words.proofs.General.{sym, ◌∙◌}
use Rattle.text.proofs.Runs.{past-on, past_off, past_done}
use Rattle.text.proofs.run_end.Goals as goal

pub returns-then-not-passes : goal.returns-then-not-passes
returns-then-not-passes g c =
    past_off g.p _ _ c.loop-i-test.true (sym (c.requires.1.1 _ _ c.passes.ensures) ∙ c.if-not-passes.true) ∙ sym c.loop-i.invariant

pub loop-i-preserved : goal.loop-i-preserved
loop-i-preserved g c =
    c.loop-i.invariant ∙ past-on g.p _ _ c.loop-i-test.true (sym (c.requires.1.1 _ _ c.passes.ensures) ∙ c.if-not-passes.false)

pub returns : goal.returns
returns g c = c.max.ensures ∙ past_done g.p _ _ _ c.loop-i.invariant c.loop-i-test.false c.loop-i.auto.i-end
