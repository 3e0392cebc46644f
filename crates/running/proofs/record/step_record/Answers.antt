-- By its kind, one of the five, or none.
use Rattle.words.proofs.General.{refl}
use Rattle.running.proofs.Checks.{access_kind, step_of, usual_ready}
use Rattle.running.proofs.record.step_record.Goals as goal

pub access_record-requires-clause-ready : goal.access_record-requires-clause-ready
access_record-requires-clause-ready c = let k = access_kind _ c.if-kind.true in (usual_ready c.requires.usual_at k.0, k.1)

pub send_record-requires-clause-ready : goal.send_record-requires-clause-ready
send_record-requires-clause-ready c = (usual_ready c.requires.usual_at (step_of 3 c.in-3.is refl), c.in-3.is)

pub fill_record-requires-clause-ready : goal.fill_record-requires-clause-ready
fill_record-requires-clause-ready c = (usual_ready c.requires.usual_at (step_of 4 c.in-4.is refl), c.in-4.is)

pub tick_record-requires-clause-ready : goal.tick_record-requires-clause-ready
tick_record-requires-clause-ready c = (usual_ready c.requires.usual_at (step_of 5 c.in-5.is refl), c.in-5.is)
