-- The send, the fill, the offer.
use Rattle.words.proofs.General.{arith}
use Rattle.turns.proofs.Turns.{sends_held, drained-held, offer_bytes, offers}
use Rattle.turns.proofs.one_round.Goals as goal

pub fill_turn-filled-requires-clause-held : goal.fill_turn-filled-requires-clause-held
fill_turn-filled-requires-clause-held c =
    sends_held _ c.args.x c.send_turn-sent.ensures c.requires.held

pub access_step-reply-requires : goal.access_step-reply-requires
access_step-reply-requires c = drained-held _ c.args.x c.send_turn-sent.ensures c.fill_turn-filled.ensures c.requires.held

pub note-written-requires : goal.note-written-requires
note-written-requires c =
    let h = drained-held _ c.args.x c.send_turn-sent.ensures c.fill_turn-filled.ensures c.requires.held in
    let b = offer_bytes _ c.args.x c.access_step-reply.ensures h in
    omega (arith, b, c.send_turn-sent.ensures.short, c.fill_turn-filled.ensures.short, c.send_turn-sent.auto.events, c.fill_turn-filled.auto.events, c.requires.round_bytes_in_bounds.0)

pub returns : goal.returns
returns c =
    offers _ c.args.x c.send_turn-sent.ensures c.fill_turn-filled.ensures c.access_step-reply.ensures c.requires.held c.requires.round_bytes_in_bounds.1 c.note-written.ensures
