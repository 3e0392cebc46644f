-- The first record stops the run, or leaves fresh tables to the rest.
use Rattle.running.proofs.First.{accepts_begins}
use Rattle.streaming.proofs.Starting.{start_stops, start-runs}
use Rattle.streaming.proofs.parts.start.Goals as goal

pub returns-in-Err : goal.returns-in-Err
returns-in-Err c =
    let begins = accepts_begins _ c.requires.first_value c.begin.ensures in
    search start_stops

pub returns-in-Ok : goal.returns-in-Ok
returns-in-Ok c =
    let begins = accepts_begins _ c.requires.first_value c.begin.ensures in
    search start-runs
