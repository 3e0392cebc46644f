-- Storing the digits that are left to write gives what storing all of them gives.
use Rattle.words.proofs.General.{◌≡◌, sets}
use Rattle.text.specs.Digits.{digits}
use Rattle.text.proofs.spell.Given as goal

abbrev pub invariant-loop-i : goal.invariant-loop-i
invariant-loop-i l = sets l.initial.out l.at (digits l.base l.k l.n) ≡ sets l.out l.at (digits l.base l.i l.rest)
