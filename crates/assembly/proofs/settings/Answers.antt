-- Its parts in order.
use Rattle.words.proofs.General.{sym}
use Rattle.std.proofs.lemmas.Result.{err_from_is_err_and}
use Rattle.assembly.specs.Language.{settings_form, parts_from}
use Rattle.assembly.proofs.settings.Goals as goal

pub returns-in_err-sets : goal.returns-in_err-sets
unfolding settings_form parts_from
returns-in_err-sets c =
    let p = err_from_is_err_and c.from_residual.result c.from_residual.ensures.1 in
    rw (p.1, p.2, sym c.in_err-sets.ensures.value)

pub returns-in_err-ways : goal.returns-in_err-ways
unfolding settings_form parts_from
returns-in_err-ways c =
    let p = err_from_is_err_and c.from_residual-in_err-ways.result c.from_residual-in_err-ways.ensures.1 in
    rw (p.1, p.2, sym c.in_ok-sets.ensures.value, sym c.in_err-ways.ensures.value)

pub returns-in_err-dirty : goal.returns-in_err-dirty
unfolding settings_form parts_from
returns-in_err-dirty c =
    let p = err_from_is_err_and c.from_residual-in_err-dirty.result c.from_residual-in_err-dirty.ensures.1 in
    rw (p.1, p.2, sym c.in_ok-sets.ensures.value, sym c.in_ok-ways.ensures.value, sym c.in_err-dirty.ensures.value)

pub returns-in_err-misses : goal.returns-in_err-misses
unfolding settings_form parts_from
returns-in_err-misses c =
    let p = err_from_is_err_and c.from_residual-in_err-misses.result c.from_residual-in_err-misses.ensures.1 in
    rw (p.1, p.2, sym c.in_ok-sets.ensures.value, sym c.in_ok-ways.ensures.value, sym c.in_ok-dirty.ensures.value, sym c.in_err-misses.ensures.value)

pub returns-in_err-readers : goal.returns-in_err-readers
unfolding settings_form parts_from
returns-in_err-readers c =
    let p = err_from_is_err_and c.from_residual-in_err-readers.result c.from_residual-in_err-readers.ensures.1 in
    rw (p.1, p.2, sym c.in_ok-sets.ensures.value, sym c.in_ok-ways.ensures.value, sym c.in_ok-dirty.ensures.value, sym c.in_ok-misses.ensures.value, sym c.in_err-readers.ensures.value)

pub returns-in_err-queue : goal.returns-in_err-queue
unfolding settings_form parts_from
returns-in_err-queue c =
    let p = err_from_is_err_and c.from_residual-in_err-queue.result c.from_residual-in_err-queue.ensures.1 in
    rw (p.1, p.2, sym c.in_ok-sets.ensures.value, sym c.in_ok-ways.ensures.value, sym c.in_ok-dirty.ensures.value, sym c.in_ok-misses.ensures.value, sym c.in_ok-readers.ensures.value, sym c.in_err-queue.ensures.value)

pub returns : goal.returns
unfolding settings_form parts_from
returns c = rw (sym c.in_ok-sets.ensures.value, sym c.in_ok-ways.ensures.value, sym c.in_ok-dirty.ensures.value, sym c.in_ok-misses.ensures.value, sym c.in_ok-readers.ensures.value, sym c.in_ok-queue.ensures.value) c.with_rule.ensures
