-- `billing::bill_log` meets its contract: what is left of the log, billed from here, gives the whole bill.
use Rattle.words.proofs.General.{arith}
use Rattle.billing.proofs.Parts.{event_past, left_start, left_more, left_stop}
use Rattle.billing.proofs.bill_log.Goals as goal

pub loop-event-init : goal.loop-event-init
loop-event-init c = left_start _ _

pub loop-event-smaller : goal.loop-event-smaller
loop-event-smaller c = let h = event_past c.args.log.now c.loop-event.at c.item_at.ensures c.in-Event.is in omega arith

pub loop-event-preserved : goal.loop-event-preserved
loop-event-preserved c = left_more _ _ _ _ c.item_at.ensures c.loop-event.invariant c.in-Event.is c.add-b.ensures

pub returns : goal.returns
returns c = left_stop _ _ _ _ c.item_at.ensures c.loop-event.invariant c.in_default.not-Event
