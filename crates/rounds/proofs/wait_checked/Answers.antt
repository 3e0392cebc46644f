-- Refusal 4, then the rounds.
use Rattle.encoding.proofs.Bridge.{is_fit}
use Rattle.words.proofs.General.{ap, not, said_no, said_yes}
use Rattle.rounds.proofs.Ends.{waits_rounds, waits_malformed}
use Rattle.rounds.proofs.wait_checked.Goals as goal

pub returns-then-not-well_formed : goal.returns-then-not-well_formed
returns-then-not-well_formed c = search (waits_malformed, said_no)

pub returns : goal.returns
returns c =
    waits_rounds (said_yes c.well_formed-2.ensures.value (ap not c.if-not-well_formed.false)) c.most_rounds-most.ensures c.wait_rounds.ensures

pub invariant_of-t : goal.invariant_of-t
invariant_of-t c = record { sized = is_fit _ _ _ c.requires.held.are }
