-- `compare::checking::check_log` meets its contract: the bytes that came are checked, and each turn but the last reads some.
use Rattle.compare.proofs.Parts.{part_checked, part_less, started_checked}
use Rattle.compare.proofs.checking.check_log.Goals as goal

pub loop-more-init : goal.loop-more-init
loop-more-init c = rw c.begin-c.ensures started_checked

pub loop-more-smaller : goal.loop-more-smaller
loop-more-smaller c = part_less _ c.loop-more.invariant c.in_ok-next.ensures c.loop-more-test.true

pub loop-more-preserved : goal.loop-more-preserved
loop-more-preserved c = part_checked _ c.loop-more.invariant c.in_ok-next.ensures
