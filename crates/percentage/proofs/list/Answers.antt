-- `percentage::list` meets its contract. Assumes nothing.
use Rattle.words.proofs.General.{arith}
use Rattle.percentage.proofs.Writes.{written-first, written_more, written-room, written_none}
use Rattle.percentage.proofs.list.Goals as goal

pub returns-then-out-lt20 : goal.returns-then-out-lt20
returns-then-out-lt20 c = written_none _ (omega arith)

pub loop-found-init : goal.loop-found-init
loop-found-init c = (omega arith, written-first _, omega arith)

pub bounds-out-n : goal.bounds-out-n
bounds-out-n c = let v = c.loop-found in let h = c.in-Some.ensures in written-room _ v.out v.n _ v.invariant.1 c.in-Some.found _ h.1 v.invariant.2

pub loop-found-smaller : goal.loop-found-smaller
loop-found-smaller c =
    let v = c.loop-found in
    let h = c.in-Some.ensures in
    let k = v.invariant.1 in
    let r = written-room _ v.out v.n _ k c.in-Some.found _ h.1 v.invariant.2 in
    omega (arith, k.long)

pub loop-found-preserved : goal.loop-found-preserved
loop-found-preserved c =
    let v = c.loop-found in
    let h = c.in-Some.ensures in
    let r = written-room _ v.out v.n _ v.invariant.1 c.in-Some.found _ h.1 v.invariant.2 in
    (omega (arith, h.0.some, h.0.most, h.0.part, h.0.cent), written_more _ v.out v.n _ v.invariant.1 c.in-Some.found _ h.1 r, v.invariant.2)
