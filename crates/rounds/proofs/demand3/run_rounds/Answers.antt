-- Refusals 1 to 4, room for flags and events, then the rounds.
use Rattle.std.proofs.lemmas.Result.{err_from_is_err_and}
use Rattle.rounds.proofs.Starting.{few-flags, few_bytes, rounds-refused, rounds-ran}
use Rattle.rounds.proofs.demand3.run_rounds.Goals as goal
use Rattle.rounds.proofs.demand3.run_rounds.Goals.{then-flags-n-via-then-flags-n, then-flags-n-via-else-flags-n+then-events-n}

pub returns-in_err-g : goal.returns-in_err-g
returns-in_err-g c =
    let p = err_from_is_err_and c.from_residual.result c.from_residual.ensures.1 in
    let both = rounds-refused c.may_run.ensures _ _ _ c.in_err-g.was in
    rw (p.1, p.2) record { events_after = both.0; flags_after = both.1 }

pub returns-then-flags-n : goal.returns-then-flags-n
returns-then-flags-n c =
    elim c.then-flags-n.branch [
      | then-flags-n-via-then-flags-n w ↦
          let both = few-flags c.may_run.ensures _ _ _ c.in_ok-g.was w.if-flags-n.true in record { events_after = both.0; flags_after = both.1 }
      | then-flags-n-via-else-flags-n+then-events-n w ↦
          let both = few_bytes c.may_run.ensures _ _ _ c.in_ok-g.was w.if-events-n.true in record { events_after = both.0; flags_after = both.1 }
    ]

pub returns : goal.returns
returns c =
    let both = rounds-ran c.may_run.ensures _ _ _ c.in_ok-g.was c.if-flags-n.false c.if-events-n.false c.rounds_on.ensures in
    record { events_after = both.0; flags_after = both.1 }
