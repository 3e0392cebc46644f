-- The send, then the fill.
use Rattle.rounds.proofs.Showing.{sent_held, drains}
use Rattle.rounds.proofs.demand3.see_drain.Goals as goal

pub see_fill-requires-clause-held : goal.see_fill-requires-clause-held
see_fill-requires-clause-held c = sent_held _ c.see_send-sent.ensures

pub returns : goal.returns
returns c = search drains
