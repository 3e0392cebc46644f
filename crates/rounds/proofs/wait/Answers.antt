-- Room for the events, refusals 1, 2 and 3, then the rounds.
use Rattle.words.proofs.General.{rules}
use Rattle.soundness.proofs.Checked.{passed-held}
use Rattle.rounds.proofs.Ends.{waits_no-room, waits_refused, waits_passed}
use Rattle.rounds.proofs.wait.Goals as goal

pub returns-then-events-lt-WAIT_ROOM : goal.returns-then-events-lt-WAIT_ROOM
returns-then-events-lt-WAIT_ROOM c = waits_no-room _ _ _ _ c.if-events-lt-WAIT_ROOM.true

pub returns-in-Err : goal.returns-in-Err
returns-in-Err c = search waits_refused

pub wait_checked-requires-clause-held : goal.wait_checked-requires-clause-held
wait_checked-requires-clause-held c =
    rw (c.checked_layout.ensures.own _ c.in-Ok.is) (passed-held _ _ c.checked_layout.ensures (λ i. search rules) c.in-Ok.is)

pub returns-in-Ok : goal.returns-in-Ok
returns-in-Ok c =
    let w = rw (c.checked_layout.ensures.own _ c.in-Ok.is) at c.wait_checked.ensures in
    waits_passed _ _ _ _ c.if-events-lt-WAIT_ROOM.false (passed-held _ _ c.checked_layout.ensures (λ i. search rules) c.in-Ok.is) w
