-- `billing::bill_log` meets its contract: what is left of the log, billed from here, gives the whole bill.
use Rattle.words.proofs.General.{◌-◌, length}
use Rattle.billing.proofs.Parts.{BillLeft}
use Rattle.billing.proofs.bill_log.Given as goal

abbrev pub invariant-loop-event : goal.invariant-loop-event
invariant-loop-event l = BillLeft l.initial.b l.log l.b l.at

abbrev pub decreases-loop-event : goal.decreases-loop-event
decreases-loop-event l = length l.log - l.at
