-- What the step leaves, its events written, and what is in use then.
use Rattle.words.proofs.General.{refl}
use Rattle.encoding.proofs.ReplyShapes.{fill_shaped}
use Rattle.running.proofs.Singles.{ready_room}
use Rattle.running.proofs.Acting.{whole_at, fill-runs}
use Rattle.running.proofs.Counts.{counted_fill}
use Rattle.running.proofs.record.fill_record.Goals as goal

pub body_of-body-requires : goal.body_of-body-requires
body_of-body-requires c = (refl, whole_at c.requires.ready.0 4 c.requires.ready.1)

pub put_filled-out-requires : goal.put_filled-out-requires
put_filled-out-requires c = search (fill_shaped, ready_room)

pub returns : goal.returns
returns c =
    let pre = c.requires in
    record { resumes = search fill-runs; used_in_marks = rw c.left_after.ensures (search counted_fill) }
