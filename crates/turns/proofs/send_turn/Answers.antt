-- The send, and what is written of it.
use Rattle.words.proofs.General.{arith}
use Rattle.turns.proofs.Turns.{send-bytes, sends}
use Rattle.turns.proofs.send_turn.Goals as goal

pub note-requires : goal.note-requires
note-requires c = omega (arith, send-bytes _ c.send_step-reply.ensures c.requires.held, c.requires.out_in_bounds)

pub returns : goal.returns
returns c = search sends
