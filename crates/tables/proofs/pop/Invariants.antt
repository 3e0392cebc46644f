-- After i turns the first i entries have moved down, in each of the three slices; the last place is zero.
use Rattle.words.proofs.General.{◌*◌, ◌≤◌, Closing}
use Rattle.tables.proofs.pop.Given as goal

abbrev pub invariant-loop-i : goal.invariant-loop-i
invariant-loop-i l = (l.i ≤ l.last) × Closing l.initial.longs l.q l.n 1 l.longs l.i × Closing l.initial.words l.b (4 * l.n) 4 l.words (4 * l.i) × Closing l.initial.marks l.k l.n 1 l.marks l.i
