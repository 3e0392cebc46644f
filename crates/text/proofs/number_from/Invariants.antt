-- The digits from `at` on end where those from `i` on do, and come to the same behind the value so far.
use Rattle.text.proofs.Reading.{ReadTo}
use Rattle.text.proofs.number_from.Given as goal

abbrev pub invariant-loop-i : goal.invariant-loop-i
invariant-loop-i l = ReadTo l.base l.s l.at l.value l.i
