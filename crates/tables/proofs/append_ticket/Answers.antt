-- Two stores, each put in its place.
use Rattle.layout.proofs.Stores.{one-put}
use Rattle.tables.proofs.append_ticket.Goals as goal

pub returns : goal.returns
returns c = (one-put c.args.words.now _ _ c.requires.1, one-put c.args.marks.now _ _ c.requires.2)
