-- What the step leaves, its events written, and what is in use then.
use Rattle.encoding.proofs.ReplyShapes.{send_shaped}
use Rattle.running.proofs.Singles.{ready_room}
use Rattle.running.proofs.Acting.{send-runs}
use Rattle.running.proofs.Counts.{counted_send}
use Rattle.running.proofs.record.send_record.Goals as goal

pub put_sent-out-requires : goal.put_sent-out-requires
put_sent-out-requires c = search (send_shaped, ready_room)

pub returns : goal.returns
returns c =
    let pre = c.requires in
    record { resumes = search send-runs; used_in_marks = rw c.saturating_sub.ensures (search counted_send) }
