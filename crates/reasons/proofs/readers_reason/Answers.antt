-- The first of the entries in use that has the address.
use Rattle.words.proofs.General.{arith}
use Rattle.reasons.proofs.Entries.{slices_fit, entries_fit, address_shown}
use Rattle.reasons.proofs.readers_reason.Goals as goal

pub used-n-requires : goal.used-n-requires
used-n-requires c = omega (arith, slices_fit c.requires, c.args.g.laid)

pub find_entry-e-requires : goal.find_entry-e-requires
find_entry-e-requires c = (entries_fit c.args.g.laid c.requires c.used-n.ensures).0

pub entry_reason-requires : goal.entry_reason-requires
entry_reason-requires c = entries_fit c.args.g.laid c.requires c.used-n.ensures

pub returns : goal.returns
returns c = search address_shown
