-- `bill::bill_all` is safe and ends: each turn reads a byte or more of those that may still come.
use Rattle.std.proofs.Common.{◌≡◌, length}
use Rattle.bill.proofs.bill_all.Given as goal

abbrev pub invariant-loop-lack : goal.invariant-loop-lack
invariant-loop-lack l = length l.buf ≡ length l.initial.buf

abbrev pub decreases-loop-lack : goal.decreases-loop-lack
decreases-loop-lack l = l.left
