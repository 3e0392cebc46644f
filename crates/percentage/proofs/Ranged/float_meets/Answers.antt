-- `percentage::Ranged::float_meets` meets its contract: each cast is of a number below 2 ^ 24, and the rest is what the code does. Assumes nothing.
use Rattle.words.proofs.General.{◌≡◌, refl, ap}
use lib.Ieee.{Float, binary32, of_int, of_bits, mul, div, le}
use Rattle.percentage.specs.Percent.{as_single, float_meets}
use Rattle.percentage.proofs.Ranged.float_meets.Goals as goal

-- the literal 100.0
hundred : of_bits binary32 0x42c80000 ≡ as_single 100
unfolding of_bits of_int
hundred = refl

pub returns : goal.returns
unfolding float_meets
returns c =
    let a = c.args.self.triple in
    ap (λ (z : Float). le (as_single a.percent) (mul binary32 (div binary32 (as_single a.dirty) (as_single a.lines)) z)) hundred
