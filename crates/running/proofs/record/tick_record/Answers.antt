-- What the step leaves, its events written.
use Rattle.words.proofs.General.{refl}
use Rattle.encoding.proofs.ReplyShapes.{tick_shaped}
use Rattle.running.proofs.Singles.{ready_room}
use Rattle.running.proofs.Acting.{whole_at, tick-runs}
use Rattle.running.proofs.record.tick_record.Goals as goal

pub body_of-body-requires : goal.body_of-body-requires
body_of-body-requires c = (refl, whole_at c.requires.ready.0 5 c.requires.ready.1)

pub put_ticked-out-requires : goal.put_ticked-out-requires
put_ticked-out-requires c = (tick_shaped _ c.requires.sound.0 _ c.tick_step-reply.ensures, ready_room c.requires.ready.0)

pub returns : goal.returns
returns c =
    record { resumes = tick-runs c.requires.ready.0 c.requires.sound.0 c.put_ticked-out.ensures c.put_ticked-out.auto.out c.tick_step-reply.ensures c.requires.ready.1 c.body_of-body.ensures.bytes c.read-cycle.ensures; used_in_marks = c.requires.sound.1 }
