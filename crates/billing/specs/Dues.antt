-- What one event adds to a bill, and at which of its places. The places:
--     0 accesses answered; 1 to 4 those answered HIT, HIT_RESERVED, MISS, SECTOR_MISS, at the answer's number
--     5 refusals; 6 to 17 those of each number, at 5 and the number
--     18 reads queued, 19 write-backs queued, 20 reads sent, 21 write-backs sent, 22 their dirty bytes
--     23 fills, 24 their bytes, 25 readers released, 26 ticks
use Rattle.std.specs.Prelude.{ℕ, ◌+◌, eqb}
use Rattle.words.specs.Words.{pick}
use Rattle.model.specs.Numbers.{answer_number, refusal_number}
use Rattle.model.specs.declared.Event.{Event}
use Rattle.model.specs.declared.Event.TheVariants as ev
use Rattle.records.specs.Masks.{dirty_bytes}
use Rattle.billing.specs.declared.Dues.{Dues}

-- 1 at one place; n at another besides
abbrev pub due_once : ℕ → Dues
due_once p = record { place = p; other = p; also = 0 }

abbrev pub one_and : ℕ → ℕ → ℕ → Dues
one_and p q n = record { place = p; other = q; also = n }

unfoldable pub dues_of : Event → Dues
dues_of (ev.Answered a line) = one_and 0 (answer_number a) 1
dues_of (ev.Refused n) = one_and 5 (5 + refusal_number n) 1
dues_of (ev.ReadQueued a) = due_once 18
dues_of (ev.WriteBackQueued b m0 m1 m2 m3) = due_once 19
dues_of (ev.Released t) = due_once 25
dues_of (ev.ReadSent a) = due_once 20
dues_of (ev.WriteBackSent b m0 m1 m2 m3) = one_and 21 22 (dirty_bytes m0 m1 m2 m3)
dues_of (ev.Filled a) = one_and 23 24 32
dues_of ev.Ticked = due_once 26

-- what an event adds at place p
abbrev pub owed_at : ℕ → Dues → ℕ
owed_at p d = pick (eqb p d.place) 1 0 + pick (eqb p d.other) d.also 0
