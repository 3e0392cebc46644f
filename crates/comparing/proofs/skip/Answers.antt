-- `comparing::skip` meets its contract.
use Rattle.comparing.proofs.Sides.{skips_start, skips_out, skips_more, skips_over}
use Rattle.comparing.proofs.skip.Goals as goal

pub loop-i-init : goal.loop-i-init
loop-i-init c = skips_start _ _

pub returns-then-log-at : goal.returns-then-log-at
returns-then-log-at c = let l = c.loop-i in skips_out _ _ l.at l._i c.if-log-at.true l.invariant

pub loop-i-preserved : goal.loop-i-preserved
loop-i-preserved c = search skips_more

pub returns-after-loop-i : goal.returns-after-loop-i
returns-after-loop-i c = let l = c.loop-i in skips_over _ _ l.at l._i c.loop-i-test.false l.invariant
