-- The first record, then the others.
use Rattle.running.proofs.First.{accepts_begins, run_stopped, begun-held, begun-stands, run-begun}
use Rattle.runner.proofs.run.Goals as goal

pub run_records-requires : goal.run_records-requires
run_records-requires c =
    let b = accepts_begins _ c.first_record-first.ensures c.begin.ensures in
    record { sound = rw c.new-g.ensures (begun-held b c.in-Ok.is); run_at = begun-stands b c.in-Ok.is _ }

pub new-g-requires : goal.new-g-requires
new-g-requires c =
    let b = accepts_begins _ c.first_record-first.ensures c.begin.ensures in
    (begun-held b c.in-Ok.is).are.range

pub returns-in-Err : goal.returns-in-Err
returns-in-Err c = search (accepts_begins, run_stopped)

pub returns-in-Ok : goal.returns-in-Ok
returns-in-Ok c =
    let b = accepts_begins _ c.first_record-first.ensures c.begin.ensures in
    run-begun b c.in-Ok.is _ (rw c.new-g.ensures at c.run_records.ensures)
