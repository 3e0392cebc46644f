-- The first event and as many entries as there are; there is room for four bytes and two entries.
use Rattle.words.proofs.General.{ℕ, arith, ◌≡◌, refl, ap, length, take}
use Rattle.records.proofs.Encoding.{any_room, any_end}
use Rattle.records.proofs.Log.{queued_start, queued_turn, tickets_start}
use Rattle.records.proofs.Begun.{begun_as}
use Rattle.records.proofs.Reply.{reply_alone, reply-laid}
use Rattle.records.proofs.writer.put_access.Goals as goal

pub put_access_first-i-requires : goal.put_access_first-i-requires
put_access_first-i-requires c =
    let n = (begun_as c.args.reply.first).access c.requires.0.first in
    (c.requires.0.first, omega arith)

pub returns-then-reply-eq0 : goal.returns-then-reply-eq0
returns-then-reply-eq0 c = reply_alone c.args.reply (omega arith) c.requires.0.tickets c.put_access_first-i.ensures

pub put_entry-j-requires : goal.put_entry-j-requires
put_entry-j-requires c = let n = (begun_as c.args.reply.first).access c.requires.0.first in any_room _ _ (omega arith)

pub returns-then-reply-eq1 : goal.returns-then-reply-eq1
returns-then-reply-eq1 c =
    let t = c.args.reply in
    let two : length t.queued ≡ 2 = omega arith in
    let few : 1 ≡ t.queues = omega arith in
    let none : 0 ≡ t.count = omega arith in
    reply-laid t {q = take 1 t.queued} {s = take 0 t.tickets} (ap (λ (n : ℕ). take n t.queued) few) (ap (λ (n : ℕ). take n t.tickets) none) c.put_access_first-i.ensures
    (queued_turn t.queued _ 0 (omega arith) refl (queued_start t.queued _ _) c.put_entry-j.ensures) (tickets_start t.tickets _ _)

pub put_entry-requires : goal.put_entry-requires
put_entry-requires c =
    let n = (begun_as c.args.reply.first).access c.requires.0.first in
    let j = any_end _ c.put_entry-j.ensures in
    any_room _ _ (omega arith)

pub returns : goal.returns
returns c =
    let t = c.args.reply in
    let two : length t.queued ≡ 2 = omega arith in
    let few : 2 ≡ t.queues = omega arith in
    let none : 0 ≡ t.count = omega arith in
    reply-laid t {q = take 2 t.queued} {s = take 0 t.tickets} (ap (λ (n : ℕ). take n t.queued) few) (ap (λ (n : ℕ). take n t.tickets) none) c.put_access_first-i.ensures
    (queued_turn t.queued _ 1 (omega arith) refl (queued_turn t.queued _ 0 (omega arith) refl (queued_start t.queued _ _) c.put_entry-j.ensures)
    c.put_entry.ensures) (tickets_start t.tickets _ _)
