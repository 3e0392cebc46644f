-- The send, if the queue isn't empty, and what is written of it.
use Rattle.encoding.proofs.Bridge.{is_fit}
use Rattle.words.proofs.General.{arith}
use Rattle.rounds.proofs.Showing.{no-send, send-room, sees-send}
use Rattle.rounds.proofs.demand3.see_send.Goals as goal

pub returns-then-nothing_queued : goal.returns-then-nothing_queued
returns-then-nothing_queued c = search no-send

pub tell-requires : goal.tell-requires
tell-requires c = omega (arith, send-room _ c.requires.held c.send-reply.ensures, c.requires.out_in_bounds)

pub returns : goal.returns
returns c = search sees-send

pub invariant_of-t : goal.invariant_of-t
invariant_of-t c = record { sized = is_fit _ _ _ c.requires.held.are }
