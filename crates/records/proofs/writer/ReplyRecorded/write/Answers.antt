-- The three parts, one after the other; their lengths add up to the room asked for.
use Rattle.words.proofs.General.{arith, refl}
use Rattle.records.proofs.Reply.{reply-sized, reply-laid}
use Rattle.records.proofs.writer.ReplyRecorded.write.Goals as goal

pub write-i-requires : goal.write-i-requires
write-i-requires c = let n = reply-sized c.args.self c.first_of-queued.ensures c.first_of-tickets.ensures refl refl in omega arith

pub put_queued-j-requires : goal.put_queued-j-requires
put_queued-j-requires c = let n = reply-sized c.args.self c.first_of-queued.ensures c.first_of-tickets.ensures refl refl in omega arith

pub put_tickets-requires : goal.put_tickets-requires
put_tickets-requires c = let n = reply-sized c.args.self c.first_of-queued.ensures c.first_of-tickets.ensures refl refl in omega arith

pub returns : goal.returns
returns c = reply-laid c.args.self c.first_of-queued.ensures c.first_of-tickets.ensures c.write-i.ensures c.put_queued-j.ensures c.put_tickets.ensures
