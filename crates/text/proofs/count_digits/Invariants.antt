-- `text::count_digits` meets its contract: the digits counted and those of what is left are the digits of the number.
use Rattle.words.proofs.General.{◌+◌, ◌≤◌, ◌≡◌}
use Rattle.text.specs.Digits.{digit_count}
use Rattle.text.proofs.count_digits.Given as goal

abbrev pub invariant-loop-rest : goal.invariant-loop-rest
invariant-loop-rest l = (digit_count l.base l.n + 1 ≡ l.k + digit_count l.base l.rest) × (l.k + l.rest ≤ l.n + 1)

abbrev pub decreases-loop-rest : goal.decreases-loop-rest
decreases-loop-rest l = l.rest
