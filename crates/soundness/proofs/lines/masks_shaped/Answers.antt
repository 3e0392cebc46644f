-- The mask of each sector passed.
use Rattle.words.proofs.General.{refl, ◌∙◌}
use Rattle.soundness.proofs.Tests.{joined_more, joined_end}
use Rattle.soundness.proofs.lines.masks_shaped.Goals as goal

pub loop-i-preserved : goal.loop-i-preserved
loop-i-preserved c = joined_more _ _ _ c.loop-i-test.true refl c.loop-i.invariant

pub returns : goal.returns
returns c = let t = c.args.t.now in joined_end _ _ _ c.loop-i-test.false c.loop-i.invariant ∙ rw (t.geometry.laid.masks, t.geometry.laid.readables)
