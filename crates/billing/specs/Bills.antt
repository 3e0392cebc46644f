-- Bills: a sum at each place, and whether one would have passed 64 bits; what an event and a list of events make of one.
use Rattle.std.specs.Prelude.{ℕ, ◌+◌, ◌*◌, ◌/◌, ◌^◌, true, false, Result, Ok, Err, List, [], ◌∷◌, get_or, set, replicate, eqb, ltb}
use Rattle.words.specs.Words.{pick}
use Rattle.model.specs.declared.Event.{Event}
use Rattle.billing.specs.declared.Dues.{Dues}
use Rattle.billing.specs.declared.Bill.{Bill}
use Rattle.billing.specs.declared.NoRate.{NoRate}
use Rattle.billing.specs.declared.NoRate.TheVariants.{OfNothing, TooLarge}
use Rattle.billing.specs.Dues.{dues_of, owed_at}

abbrev pub empty_bill : Bill
empty_bill = record { counts = replicate 27 0; full = false }

-- the same sums, and the mark that one more did not fit
abbrev pub filled_up : Bill → Bill
filled_up b = record { counts = b.counts; full = true }

-- n more at place p, where 64 bits hold the sum
unfoldable pub raised : Bill → ℕ → ℕ → Bill
raised b p n =
    pick b.full b (
    pick (ltb (get_or b.counts p 0 + n) (2 ^ 64)) (record { counts = set b.counts p (get_or b.counts p 0 + n); full = false })
    (filled_up b))

-- an event whose sums do not all fit is not billed
unfoldable pub bill_kept : Bill → Bill → Bill
bill_kept b c = pick c.full (filled_up b) c

unfoldable pub billed : Bill → Dues → Bill
billed b d = bill_kept b (raised (raised b d.place 1) d.other d.also)

unfoldable pub added_to : Bill → Event → Bill
added_to b e = billed b (dues_of e)

-- one event after the other
unfoldable pub all_added : Bill → List Event → Bill
all_added b [] = b
all_added b (e ∷ es) = all_added (added_to b e) es

-- what the events of a list add at place p
unfoldable pub owed_in : ℕ → List Event → ℕ
owed_in p [] = 0
owed_in p (e ∷ es) = owed_at p (dues_of e) + owed_in p es

-- ---- a part of a whole in tenths of a percent, to the nearest, halves upwards

abbrev pub rate_of : ℕ → ℕ → Result ℕ NoRate
rate_of n m =
    pick (eqb m 0) (Err OfNothing) (
    pick (ltb (n * 1000 + m / 2) (2 ^ 64)) (Ok ((n * 1000 + m / 2) / m))
    (Err TooLarge))
