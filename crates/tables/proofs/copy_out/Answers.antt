-- After i turns the array has the first i numbers of the region, then zeros.
use Rattle.words.proofs.General.{arith, ◌≡◌, ◌∙◌, region, get_or-region, length-region, region-first, copying_start, copying_turn, copying_done}
use Rattle.tables.proofs.copy_out.Goals as goal

pub loop-i-init : goal.loop-i-init
loop-i-init c =
    let a = c.args in
    let r = length-region a.words.now a.at a.n (omega arith) in
    (omega arith, copying_turn 8 (region a.words.now a.at a.n) _ 0 _ (omega arith) (omega arith) (region-first a.words.now a.at a.n (omega arith)) (copying_start 8 (region a.words.now a.at a.n)))

pub loop-i-preserved : goal.loop-i-preserved
loop-i-preserved c =
    let a = c.args in let l = c.loop-i in
    let r = length-region a.words.now a.at a.n (omega arith) in
    (omega arith, copying_turn 8 (region a.words.now a.at a.n) l.out l.i _ (omega arith) (omega arith) (get_or-region a.words.now a.at a.n l.i (omega arith)) l.invariant.1)

pub returns : goal.returns
returns c =
    let a = c.args in let l = c.loop-i in
    let e : a.n ≡ l.i = omega arith in
    copying_done 8 (region a.words.now a.at a.n) l.out l.i (length-region a.words.now a.at a.n (omega arith) ∙ e) (omega arith) l.invariant.1
