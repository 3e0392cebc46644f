-- `percentage::legal_size` meets its contract. Assumes nothing.
use Rattle.words.proofs.General.{ℕ, arith, subst}
use Rattle.percentage.proofs.Legal.{Split, lines_some, legal, split}
use Rattle.model.proofs.Fits.{ranged}
use Rattle.percentage.proofs.legal_size.Goals as goal
use Rattle.percentage.proofs.legal_size.Goals.{then-lines-lt1-via-then-lines-lt1, then-lines-lt1-via-else-lines-lt1+then-lines-gt1024}

pub returns-then-lines-lt1 : goal.returns-then-lines-lt1
returns-then-lines-lt1 c =
    λ S e h. let g = lines_some S e in
    let r = ranged S e in
    elim c.then-lines-lt1.branch [ then-lines-lt1-via-then-lines-lt1 w ↦ omega arith | then-lines-lt1-via-else-lines-lt1+then-lines-gt1024 w ↦ omega (arith, r.lines) ]

pub returns : goal.returns
returns c =
    λ S e h. let r = ranged S e in
    c.loop-ways.invariant S.ways (omega (arith, r.few_ways)) r.ways (subst (λ (l : ℕ). Split l S.ways) h (split S e))

pub returns-then-lines-ways-eq0-2 : goal.returns-then-lines-ways-eq0-2
returns-then-lines-ways-eq0-2 c =
    legal _ _ (omega arith) (omega arith) (omega arith) (omega arith) (c.if-lines-ways-eq0.true, c.if-lines-ways-eq0-2.true)
