-- Refusal 4.
use Rattle.encoding.proofs.Bridge.{is_fit}
use Rattle.words.proofs.General.{said_no}
use Rattle.wait.proofs.Verdicts.{ends_malformed}
use Rattle.wait.proofs.waiting.wait_for.Goals as goal

pub returns-then-not-well_formed : goal.returns-then-not-well_formed
returns-then-not-well_formed c = search (ends_malformed, said_no)

pub invariant_of-t : goal.invariant_of-t
invariant_of-t c = record { sized = rw c.new-g.ensures (is_fit _ _ _ c.requires.are) }
