-- `comparing::group_end` meets its contract: what is left of the log has the end.
use Rattle.words.proofs.General.{sym}
use Rattle.comparing.proofs.Walks.{past_less, group_none, ends_start, ends_here, ends_more, ends_over}
use Rattle.comparing.proofs.group_end.Goals as goal

pub returns-then-log-at : goal.returns-then-log-at
returns-then-log-at c = sym (group_none _ _ c.if-log-at.true)

pub loop-end-init : goal.loop-end-init
loop-end-init c = ends_start _ _ c.if-log-at.false c.past-end.ensures

pub returns-else-not-starts : goal.returns-else-not-starts
returns-else-not-starts c = search ends_here

pub loop-end-smaller : goal.loop-end-smaller
loop-end-smaller c = search past_less

pub loop-end-preserved : goal.loop-end-preserved
loop-end-preserved c = search ends_more

pub returns-after-loop-end : goal.returns-after-loop-end
returns-after-loop-end c = let v = c.loop-end in ends_over _ _ v.end c.loop-end-test.false v.invariant
