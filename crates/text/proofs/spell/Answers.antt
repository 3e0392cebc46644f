-- Storing the digits that are left to write gives what storing all of them gives.
use Rattle.words.proofs.General.{sym, ◌∙◌}
use Rattle.text.proofs.Spelling.{spell_turn, spell_done}
use Rattle.text.proofs.spell.Goals as goal

pub loop-i-preserved : goal.loop-i-preserved
loop-i-preserved c = let v = c.loop-i in v.invariant ∙ spell_turn _ _ _ v.i v.rest c.loop-i-test.true c.glyph.ensures

pub returns : goal.returns
returns c = let v = c.loop-i in sym (v.invariant ∙ spell_done _ _ _ _ _ c.loop-i-test.false)
