-- The send, the fill, the offer.
use Rattle.words.proofs.General.{arith}
use Rattle.rounds.proofs.Showing.{offer-room, sees-offer}
use Rattle.rounds.proofs.demand3.see_round.Goals as goal

pub tell-written-requires : goal.tell-written-requires
tell-written-requires c =
    omega (arith, offer-room _ c.args.x c.see_drain-drained.ensures c.access-reply.ensures, c.see_drain-drained.ensures.short, c.see_drain-drained.auto.events, c.requires.round_bytes_in_bounds.0)

pub returns : goal.returns
returns c =
    sees-offer _ c.args.x c.see_drain-drained.ensures c.access-reply.ensures c.requires.round_bytes_in_bounds.1 c.tell-written.ensures c.accepted-taken.ensures
