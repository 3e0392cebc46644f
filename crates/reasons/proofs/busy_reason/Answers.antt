-- The first of the entries in use whose address is of the set.
use Rattle.words.proofs.General.{arith}
use Rattle.reasons.proofs.Entries.{slices_fit, entries_fit, set_shown}
use Rattle.reasons.proofs.busy_reason.Goals as goal

pub used-n-requires : goal.used-n-requires
used-n-requires c = omega (arith, slices_fit c.requires, c.args.g.laid)

pub set_index-set-requires : goal.set_index-set-requires
set_index-set-requires c = (slices_fit c.requires).power

pub first_in_set-e-requires : goal.first_in_set-e-requires
first_in_set-e-requires c = ((entries_fit c.args.g.laid c.requires c.used-n.ensures).0, (slices_fit c.requires).power)

pub entry_reason-requires : goal.entry_reason-requires
entry_reason-requires c = entries_fit c.args.g.laid c.requires c.used-n.ensures

pub returns : goal.returns
returns c = search set_shown
