-- After i turns the first i entries have moved down, in each of the three slices; the last place is zero.
use Rattle.words.proofs.General.{◌+◌, ◌*◌, arith, refl, closing_move}
use Rattle.tables.proofs.Closed.{closing_last, closing_four, closing_last_four}
use Rattle.tables.proofs.pop.Goals as goal

pub loop-i-preserved : goal.loop-i-preserved
loop-i-preserved c =
    let p = c.requires in let inv = c.loop-i.invariant in let k = c.loop-i-test.true in let i = c.loop-i.i in (
      omega arith,
      closing_move _ _ _ _ (p.0, p.1) _ i k inv.1,
      closing_four _ _ _ (omega arith, p.2) _ (4 * i) (4 * (i + 1)) _ (omega arith) refl (omega arith) inv.2,
      closing_move _ _ _ _ (p.0, p.3) _ i k inv.3,
    )

pub returns : goal.returns
returns c =
    let p = c.requires in let inv = c.loop-i.invariant in let i = c.loop-i.i in (
      closing_last _ _ _ (p.0, p.1) _ i _ (omega arith) (omega arith) inv.1,
      closing_last_four _ _ _ (omega arith, p.2) _ (4 * i) _ (omega arith) (omega arith) inv.2,
      closing_last _ _ _ (p.0, p.3) _ i _ (omega arith) (omega arith) inv.3,
    )
