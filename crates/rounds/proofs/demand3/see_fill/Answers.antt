-- The fill of the first sent entry, and what is written of it.
use Rattle.encoding.proofs.Bridge.{is_fit}
use Rattle.words.proofs.General.{arith}
use Rattle.rounds.proofs.Showing.{no-fill, fill-room, fills}
use Rattle.rounds.proofs.demand3.see_fill.Goals as goal

pub tell-requires : goal.tell-requires
tell-requires c = omega (arith, fill-room _ c.requires.held c.first_sent.ensures c.in-Some.is c.fill-reply.ensures, c.requires.fill_bytes_in_bounds)

pub returns : goal.returns
returns c = search fills

pub returns-in_default : goal.returns-in_default
returns-in_default c = search no-fill

pub invariant_of-t : goal.invariant_of-t
invariant_of-t c = record { sized = is_fit _ _ _ c.requires.held.are }
