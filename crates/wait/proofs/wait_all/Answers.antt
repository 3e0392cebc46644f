-- The first record leaves its tables, and the bytes behind it, to the rest.
use Rattle.streaming.specs.declared.scope.Scope.TheVariants as scope
use Rattle.wait.proofs.wait_all.Goals as goal

pub wait_rest-requires-clause-ready : goal.wait_rest-requires-clause-ready
wait_rest-requires-clause-ready c = ((rw c.in-Ok.is at c.start.ensures).after scope.BeforeLast).2

pub wait_rest-requires-clause-claims : goal.wait_rest-requires-clause-claims
wait_rest-requires-clause-claims c = rw ((rw c.in-Ok.is at c.start.ensures).after scope.BeforeLast).0 tt
