-- `text::count_digits` meets its contract: the digits counted and those of what is left are the digits of the number.
use Rattle.words.proofs.General.{arith}
use Rattle.text.proofs.Spelling.{count_more, count_last, div_falls}
use Rattle.text.proofs.count_digits.Goals as goal

pub loop-rest-preserved : goal.loop-rest-preserved
loop-rest-preserved c =
    let h = div_falls _ _ c.requires c.loop-rest-test.true in (omega (arith, count_more _ _ c.requires c.loop-rest-test.true), omega arith)

pub returns : goal.returns
returns c = omega (arith, count_last _ _ c.loop-rest-test.false)
