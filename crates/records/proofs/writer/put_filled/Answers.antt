-- The first event, then the tickets; there is room for nine bytes and eight tickets.
use Rattle.words.proofs.General.{ℕ, arith, ◌≡◌, refl, ap, take, length-take-le}
use Rattle.records.proofs.Log.{queued_start}
use Rattle.records.proofs.Begun.{begun_as}
use Rattle.records.proofs.Reply.{reply-laid}
use Rattle.records.proofs.writer.put_filled.Goals as goal

pub put_fill_first-i-requires : goal.put_fill_first-i-requires
put_fill_first-i-requires c = let n = (begun_as c.args.reply.first).fill c.requires.0.first in (c.requires.0.first, omega arith)

pub put_tickets-requires : goal.put_tickets-requires
put_tickets-requires c =
    let n = (begun_as c.args.reply.first).fill c.requires.0.first in
    let m = length-take-le c.args.reply.count c.args.reply.tickets (omega arith) in
    omega arith

pub returns : goal.returns
returns c =
    let t = c.args.reply in
    let few : 0 ≡ t.queues = omega arith in
    reply-laid t {q = take 0 t.queued} (ap (λ (n : ℕ). take n t.queued) few) refl c.put_fill_first-i.ensures (queued_start t.queued _ _) c.put_tickets.ensures
