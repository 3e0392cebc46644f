-- The counts are what the searches find.
use Rattle.words.proofs.General.{arith}
use Rattle.encoding.proofs.Bridge.{is_fit}
use Rattle.access.proofs.access_step.Goals as goal

pub used-queued-requires : goal.used-queued-requires
used-queued-requires c = let f = is_fit _ _ _ c.requires.are in let p = c.args.g.laid in omega arith

pub used-missed-requires : goal.used-missed-requires
used-missed-requires c = let f = is_fit _ _ _ c.requires.are in let p = c.args.g.laid in omega arith
