-- The sizes of the parts add up; the numbers fit, as the fields' types say.
use Rattle.words.proofs.General.{◌≤◌, ℕ, ◌≡◌, ◌<◌, ◌^◌, zero, suc, List, [], ◌∷◌, get_or, length, length-take, arith}
use mir.Syntax.{w32}
use mir.Val.{Val}
use denote.Array.{each}
use denote.Plain.{UInt}
use denote.Shadow.{shadow}
use lib.Dec.{lit<}
use Rattle.records.proofs.Encoding.{event_short}
use Rattle.records.proofs.Reply.{reply-sized, reply-fits}
use Rattle.records.proofs.writer.ReplyRecorded.size.Goals as goal

-- each of an array's 32-bit words is one
words_below : (ws : List ℕ) (us : List Val) → shadow (each ℕ (UInt w32).own_val ws us) → (i : ℕ) → get_or ws i 0 < 2 ^ 32
words_below [] us s i = lit< tt
words_below (w ∷ ws) [] s i = absurd s
words_below (w ∷ ws) (u ∷ us) s zero = s.0.1
words_below (w ∷ ws) (u ∷ us) s (suc i) = words_below ws us s.1 i

pub overflow_add-result : goal.overflow_add-result
overflow_add-result c = let h : c.size.result ≤ 25 = rw c.size.ensures.0 (event_short c.args.self.first) in omega arith

pub overflow_add-result-2 : goal.overflow_add-result-2
overflow_add-result-2 c =
    let h : c.size.result ≤ 25 = rw c.size.ensures.0 (event_short c.args.self.first) in
    let t = c.args.self in
    let eight : length t.tickets ≡ 8 = omega arith in
    let few : length c.first_of-tickets.result.now ≤ 8 = rw c.first_of-tickets.ensures (omega (arith, length-take t.count t.tickets)) in
    omega arith

pub returns : goal.returns
returns c =
    let t = c.args.self in
    let small : (i : ℕ) → get_or t.tickets i 0 < 2 ^ 32 = λ i. words_below t.tickets _ c.well_formed.0.1.1.1.1.1.0.1.1 i in
    let q = c.queued_size.ensures in (
      reply-sized t c.first_of-queued.ensures c.first_of-tickets.ensures c.size.ensures.0 q.0,
      reply-fits t c.first_of-queued.ensures c.first_of-tickets.ensures small c.size.ensures.1 q.2,
    )
