-- Down the ways with the best so far: a way takes its place with an earlier or the same cycle, if it is a candidate.
use Rattle.words.proofs.General.{◌+◌, ◌-◌, arith, ◌≡◌, refl}
use Rattle.probe.proofs.Scans.{unseen_stop, leads-start, leads-take, leads-pass, leads-later, leads-some, leads-none, or_first}
use Rattle.probe.proofs.victim_by_age.Goals as goal

pub loop-w-init : goal.loop-w-init
loop-w-init c = leads-start _ _ _ _

pub returns-then-is_unused : goal.returns-then-is_unused
returns-then-is_unused c =
    let loop = c.loop-w in
    or_first _ (unseen_stop _ _ loop.w (loop.w - 1) (omega arith) c.is_unused.ensures c.if-is_unused.true loop.invariant.0) refl

pub loop-w-preserved-then-is_candidate : goal.loop-w-preserved-then-is_candidate
loop-w-preserved-then-is_candidate c =
    let loop = c.loop-w in
    leads-take _ _ _ _ loop.w (loop.w - 1) _ _ (omega arith) c.is_unused.ensures c.if-is_unused.false loop.invariant c.is_candidate.ensures c.if-is_candidate.true c.if-k-cycle.true

pub loop-w-preserved-else-is_candidate : goal.loop-w-preserved-else-is_candidate
loop-w-preserved-else-is_candidate c =
    let loop = c.loop-w in
    leads-pass _ _ _ _ loop.w (loop.w - 1) _ _ (omega arith) c.is_unused.ensures c.if-is_unused.false loop.invariant c.is_candidate.ensures c.if-is_candidate.false

pub loop-w-preserved : goal.loop-w-preserved
loop-w-preserved c =
    let loop = c.loop-w in
    let a = c.args in
    leads-later _ _ _ _ loop.w (loop.w - 1) _ _ (omega arith) c.is_unused.ensures c.if-is_unused.false loop.invariant c.if-k-cycle.false (omega (arith, c.type_inv.words (a.ages + (a.base + (loop.w - 1)))))

pub returns-then-best-ways : goal.returns-then-best-ways
returns-then-best-ways c = let end : c.loop-w.w ≡ 0 = omega arith in leads-some _ _ _ _ _ _ _ end c.loop-w.invariant c.if-best-ways.true

pub returns : goal.returns
returns c =
    let end : c.loop-w.w ≡ 0 = omega arith in leads-none _ _ _ _ _ _ _ end c.loop-w.invariant c.if-best-ways.false
