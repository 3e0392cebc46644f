-- The bits of the mask from the first way on, of as many ways.
use Rattle.words.proofs.General.{ℕ, ◌/◌, ◌^◌, ◌-◌, arith, sym, ap, ◌∙◌, not, eqb}
use lib.Bits.{bit_and, and_mask}
use Rattle.model.proofs.TreeBits.{some-shifted}
use Rattle.trees.proofs.Spans.{one_shifted}
use Rattle.trees.proofs.has_candidate.Goals as goal

pub returns : goal.returns
returns c =
    let a = c.args in
    let x : ℕ = a.candidates / 2 ^ a.first in
    ap (λ (y : ℕ). not (eqb (bit_and x (y - 1)) 0)) (one_shifted (omega arith))
    ∙ ap (λ (y : ℕ). not (eqb y 0)) (and_mask x a.width)
    ∙ sym (some-shifted a.candidates a.first a.width)
