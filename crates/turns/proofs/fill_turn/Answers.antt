-- The fill of the first sent entry, and what is written of it.
use Rattle.words.proofs.General.{arith}
use Rattle.encoding.proofs.Bridge.{is_fit}
use Rattle.turns.proofs.Turns.{fill-bytes, fills_none, fills-sent}
use Rattle.turns.proofs.fill_turn.Goals as goal

pub note-requires : goal.note-requires
note-requires c =
    omega (arith, fill-bytes _ c.first_sent.ensures c.in-Some.is c.fill_step-reply.ensures c.requires.held, c.requires.fill_bytes_in_bounds)

pub returns : goal.returns
returns c = search fills-sent

pub returns-in_default : goal.returns-in_default
returns-in_default c = search fills_none

pub invariant_of-t : goal.invariant_of-t
invariant_of-t c = record { sized = is_fit _ _ _ c.requires.held.are }
