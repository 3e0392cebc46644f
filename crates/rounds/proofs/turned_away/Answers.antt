-- A refusal written at the start of the events.
use Rattle.rounds.proofs.Ends.{turns_away}
use Rattle.rounds.proofs.turned_away.Goals as goal

pub returns : goal.returns
returns c = search turns_away
