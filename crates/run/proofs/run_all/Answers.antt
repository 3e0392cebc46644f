-- The first record stops the run, or leaves its tables to the turns; either way it is the run of all the bytes that came.
use Rattle.streaming.specs.declared.scope.Scope.TheVariants as scope
use Rattle.streaming.proofs.Wholes.{stops_whole, rests_whole}
use Rattle.run.proofs.run_all.Goals as goal

pub run_rest-requires-clause-ready : goal.run_rest-requires-clause-ready
run_rest-requires-clause-ready c = ((rw c.in-Ok.is at c.start.ensures).after scope.All).2

pub run_rest-requires-clause-claims : goal.run_rest-requires-clause-claims
run_rest-requires-clause-claims c = rw ((rw c.in-Ok.is at c.start.ensures).after scope.All).0 tt

pub returns-in-Err : goal.returns-in-Err
returns-in-Err c = stops_whole c.requires.opened (rw c.in-Err.is at c.start.ensures)

pub returns-in-Ok : goal.returns-in-Ok
returns-in-Ok c = rests_whole (rw c.in-Ok.is at c.start.ensures) c.run_rest.ensures
