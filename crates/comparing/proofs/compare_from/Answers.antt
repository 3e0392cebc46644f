-- `comparing::compare_from` meets its contract: what is found from where the loop stands.
use Rattle.words.proofs.General.{◌≡◌, refl, true}
use Rattle.comparing.proofs.Sides.{group_on}
use Rattle.comparing.proofs.Firsts.{some_left, in_first, in_second, none_in, cursor_less, finds_start, finds-here, finds-more, finds-none}
use Rattle.comparing.proofs.compare_from.Goals as goal
use Rattle.comparing.proofs.compare_from.Goals.{then-c-a, else-c-a+then-c-b}

pub loop-c-init : goal.loop-c-init
loop-c-init c = finds_start _ _ _

pub overflow_sub-difference : goal.overflow_sub-difference
overflow_sub-difference c = search group_on

pub overflow_sub-difference-then-not-same : goal.overflow_sub-difference-then-not-same
overflow_sub-difference-then-not-same c = search group_on

pub returns-then-not-same : goal.returns-then-not-same
returns-then-not-same c =
    let v = c.loop-c in
    let t : some_left c.args.a.now c.args.b.now v.c.first v.c.second ≡ true = elim c.if-c-a.branch [ then-c-a w ↦ in_first _ _ _ _ w.if-c-a.true | else-c-a+then-c-b w ↦ in_second _ _ _ _ w.if-c-b.true ] in
    finds-here _ _ _ _ _ _ v.invariant t c.group_end.ensures c.group_end-in-loop-c.ensures refl c.bytes_between.ensures c.bytes_between-in-loop-c.ensures c.same.ensures c.if-not-same.true

pub loop-c-smaller : goal.loop-c-smaller
loop-c-smaller c =
    let v = c.loop-c in
    let t : some_left c.args.a.now c.args.b.now v.c.first v.c.second ≡ true = elim c.if-c-a.branch [ then-c-a w ↦ in_first _ _ _ _ w.if-c-a.true | else-c-a+then-c-b w ↦ in_second _ _ _ _ w.if-c-b.true ] in
    cursor_less _ _ _ _ t c.group_end.ensures c.group_end-in-loop-c.ensures

pub loop-c-preserved : goal.loop-c-preserved
loop-c-preserved c =
    let v = c.loop-c in
    let t : some_left c.args.a.now c.args.b.now v.c.first v.c.second ≡ true = elim c.if-c-a.branch [ then-c-a w ↦ in_first _ _ _ _ w.if-c-a.true | else-c-a+then-c-b w ↦ in_second _ _ _ _ w.if-c-b.true ] in
    finds-more _ _ _ _ _ _ v.invariant t c.group_end.ensures c.group_end-in-loop-c.ensures refl c.bytes_between.ensures c.bytes_between-in-loop-c.ensures c.same.ensures c.if-not-same.false

pub returns : goal.returns
returns c = finds-none _ _ _ _ c.loop-c.invariant (none_in _ _ _ _ c.if-c-a.false c.if-c-b.false)
