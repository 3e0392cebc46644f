-- What the step leaves, its events written, and what is in use then.
use Rattle.words.proofs.General.{arith}
use Rattle.encoding.proofs.Bridge.{is_fit}
use Rattle.encoding.proofs.ReplyShapes.{access_shaped}
use Rattle.running.proofs.Singles.{ready_room}
use Rattle.running.proofs.Acting.{access_whole, access-runs}
use Rattle.running.proofs.Counts.{counted_access}
use Rattle.running.proofs.record.access_record.Goals as goal

pub access_at-x-requires : goal.access_at-x-requires
access_at-x-requires c = access_whole c.requires.ready.0 c.requires.ready.1

pub put_access-out-requires : goal.put_access-out-requires
put_access-out-requires c = search (access_shaped, ready_room)

pub went_on-requires : goal.went_on-requires
went_on-requires c =
    let f = is_fit _ _ _ c.requires.sound.0.are in
    let few = (access_shaped _ c.requires.sound.0 _ c.access_counted-reply.ensures).entries in
    omega (arith, c.requires.sound.1.queue.most, c.requires.sound.1.misses.most)

pub returns : goal.returns
returns c =
    let pre = c.requires in
    rw c.went_on.ensures record { resumes = search access-runs; used_in_marks = search counted_access }
