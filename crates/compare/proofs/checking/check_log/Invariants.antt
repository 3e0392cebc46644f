-- `compare::checking::check_log` meets its contract: the bytes that came are checked, and each turn but the last reads some.
use Rattle.words.proofs.General.{◌+◌, ◌-◌, ◌^◌, pick}
use Rattle.compare.specs.Checking.{Checked}
use Rattle.compare.proofs.checking.check_log.Given as goal

abbrev pub invariant-loop-more : goal.invariant-loop-more
invariant-loop-more l = Checked l.c

abbrev pub decreases-loop-more : goal.decreases-loop-more
decreases-loop-more l = pick l.more (1 + (2 ^ 64 - l.c.read)) 0
