-- Refused by what the access asks or meets, or as a read or a write says.
use Rattle.std.proofs.lemmas.Result.{err_from_is_err_and}
use Rattle.words.proofs.General.{ap, not, said_no, said_yes}
use Rattle.encoding.proofs.Bridge.{is_fit}
use Rattle.access.proofs.Offering.{formed-refused, spot_meets, access-offered, access_stops}
use Rattle.access.proofs.offer.Goals as goal

pub returns-then-not-well_formed : goal.returns-then-not-well_formed
returns-then-not-well_formed c =
    record { on = λ t is. formed-refused _ _ _ (said_no c.well_formed-2.ensures.value (ap not c.if-not-well_formed.true)) t }

pub invariant_of-t : goal.invariant_of-t
invariant_of-t c = record { sized = is_fit _ _ _ c.requires.sound.are }

pub returns-in_err-decision : goal.returns-in_err-decision
returns-in_err-decision c =
    let formed = said_yes c.well_formed-2.ensures.value (ap not c.if-not-well_formed.false) in
    let p = err_from_is_err_and c.from_residual.result c.from_residual.ensures.1 in
    rw (p.1, p.2) record { on = λ t is. access_stops _ _ c.decide.ensures formed t is c.in_err-decision.was }

pub offer_read-requires-clause-placed : goal.offer_read-requires-clause-placed
offer_read-requires-clause-placed c =
    let formed = said_yes c.well_formed-2.ensures.value (ap not c.if-not-well_formed.false) in
    record {
      meets = spot_meets _ _ c.decide.ensures formed c.requires.sound.tables c.requires.sound.are c.in_ok-decision.was;
      queued = c.requires.counted.0;
      missed = c.requires.counted.1;
    }

pub offer_write-requires-clause-placed : goal.offer_write-requires-clause-placed
offer_write-requires-clause-placed c =
    let formed = said_yes c.well_formed-2.ensures.value (ap not c.if-not-well_formed.false) in
    record {
      meets = spot_meets _ _ c.decide.ensures formed c.requires.sound.tables c.requires.sound.are c.in_ok-decision.was;
      queued = c.requires.counted.0;
      missed = c.requires.counted.1;
    }

pub returns-then-is_read : goal.returns-then-is_read
returns-then-is_read c =
    let formed = said_yes c.well_formed-2.ensures.value (ap not c.if-not-well_formed.false) in
    record { on = λ t is. access-offered _ _ c.decide.ensures formed t is c.in_ok-decision.was c.offer_read.ensures }

pub returns : goal.returns
returns c =
    let formed = said_yes c.well_formed-2.ensures.value (ap not c.if-not-well_formed.false) in
    record { on = λ t is. access-offered _ _ c.decide.ensures formed t is c.in_ok-decision.was c.offer_write.ensures }
