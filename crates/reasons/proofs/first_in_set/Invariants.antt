-- No address passed is of the set.
use Rattle.words.proofs.General.{ℕ, ◌+◌, ◌/◌, ◌%◌, ◌<◌, ◌≡◌, get_or}
use Rattle.reasons.proofs.first_in_set.Given as goal

abbrev pub invariant-loop-i : goal.invariant-loop-i
invariant-loop-i l = (k : ℕ) → k < l.i → get_or l.longs (l.at + k) 0 / 128 % l.sets ≡ l.set → ⊥
