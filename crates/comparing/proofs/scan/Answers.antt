-- `comparing::scan` meets its contract: what is left of the log decides.
use Rattle.comparing.proofs.Walks.{past_less}
use Rattle.comparing.proofs.Scans.{scans_start, scans_wrong, scans_more, scans_over}
use Rattle.comparing.proofs.scan.Goals as goal

pub loop-at-init : goal.loop-at-init
loop-at-init c = scans_start _

pub returns-in-Some : goal.returns-in-Some
returns-in-Some c = let v = c.loop-at in scans_wrong _ v.at c.loop-at-test.true c.in-Some.ensures v.invariant

pub loop-at-smaller : goal.loop-at-smaller
loop-at-smaller c = search past_less

pub loop-at-preserved : goal.loop-at-preserved
loop-at-preserved c = let v = c.loop-at in scans_more _ v.at c.loop-at-test.true c.in_default.ensures c.past-at.ensures v.invariant

pub returns : goal.returns
returns c = let v = c.loop-at in scans_over _ v.at c.loop-at-test.false v.invariant
