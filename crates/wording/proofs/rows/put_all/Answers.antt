-- The pieces passed are put.
use Rattle.wording.proofs.Pieces.{puts_none, puts_more}
use Rattle.wording.proofs.rows.put_all.Goals as goal

pub loop-piece-init : goal.loop-piece-init
loop-piece-init c = puts_none

pub loop-piece-preserved : goal.loop-piece-preserved
loop-piece-preserved c = puts_more _ _ _ c.loop-piece-test.true c.loop-piece.invariant c.put-at.ensures
