-- Values in a line: a mask, and what stands behind what is counted.
use Rattle.std.specs.Prelude.{ℕ, List, [], eqb}
use Prim.Native.Char.{code}
use Rattle.words.specs.Words.{pick}
use Rattle.text.specs.Digits.{spelled, padded}
use Rattle.text.specs.Words.{codes}

-- eight digits
abbrev pub mask_digits : ℕ → List ℕ
mask_digits m = padded 8 (code "0") (spelled 16 m)

-- an s behind what is counted, but for one
abbrev pub plural : ℕ → List ℕ
plural n = pick (eqb n 1) [] (codes "s")
