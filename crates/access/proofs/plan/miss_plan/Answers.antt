use Rattle.words.proofs.General.{◌≡◌, ap, true, false, ⊎_elim, rules}
use Rattle.model.proofs.Terms.{is_merge, is_miss}
use Rattle.access.proofs.PlanTests.{read_needs, full_planned, join-planned, start-planned, hit-planned, merge_entered}
use Rattle.access.proofs.plan.miss_plan.Goals as goal

pub returns-then-g-o : goal.returns-then-g-o
returns-then-g-o c = let q = c.requires.placed.queued in search (rules, full_planned, read_needs)

pub join_plan-requires : goal.join_plan-requires
join_plan-requires c = let p = c.requires.placed in let m = ap is_merge c.in-HitReserved.is in search (rules, merge_entered)

pub returns-in-HitReserved : goal.returns-in-HitReserved
returns-in-HitReserved c = let q = c.requires.placed.queued in let m = ap is_merge c.in-HitReserved.is in search (rules, join-planned, read_needs)

pub returns-in-Miss : goal.returns-in-Miss
returns-in-Miss c =
    let q = c.requires.placed.queued in
    let other : is_merge c.args.o.decision.answer ≡ false = ⊎_elim (λ e. ap is_merge e) (λ e. ap is_merge e) c.in-Miss.is in
    let misses : is_miss c.args.o.decision.answer ≡ true = ⊎_elim (λ e. ap is_miss e) (λ e. ap is_miss e) c.in-Miss.is in
    search (rules, start-planned, read_needs)

pub returns-in-Hit : goal.returns-in-Hit
returns-in-Hit c =
    let q = c.requires.placed.queued in let m = ap is_merge c.in-Hit.is in let n = ap is_miss c.in-Hit.is in search (rules, hit-planned, read_needs)
