-- Refusals 1 to 4, room for events, then the struck rounds.
use Rattle.std.proofs.lemmas.Result.{err_from_is_err_and}
use Rattle.rounds.proofs.Starting.{few-struck, struck-refused, struck-ran}
use Rattle.rounds.proofs.demand3.run_struck.Goals as goal

pub returns-then-events-flags : goal.returns-then-events-flags
returns-then-events-flags c = few-struck c.may_run.ensures _ _ c.in_ok-g.was c.if-events-flags.true

pub returns-in_err-g : goal.returns-in_err-g
returns-in_err-g c =
    let p = err_from_is_err_and c.from_residual.result c.from_residual.ensures.1 in
    rw (p.1, p.2) (struck-refused c.may_run.ensures _ _ c.in_err-g.was)

pub returns : goal.returns
returns c = struck-ran c.may_run.ensures _ _ c.in_ok-g.was c.if-events-flags.false c.struck_on.ensures
