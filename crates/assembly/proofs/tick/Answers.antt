-- Its parts in order.
use Rattle.words.proofs.General.{sym}
use Rattle.std.proofs.lemmas.Result.{err_from_is_err_and}
use Rattle.assembly.specs.Language.{tick_form, parts_from}
use Rattle.assembly.proofs.tick.Goals as goal

pub returns-in_err-cycle : goal.returns-in_err-cycle
unfolding tick_form parts_from
returns-in_err-cycle c =
    let p = err_from_is_err_and c.from_residual.result c.from_residual.ensures.1 in
    rw (p.1, p.2, sym c.in_err-cycle.ensures.value)

pub returns : goal.returns
unfolding tick_form parts_from
returns c = rw (sym c.in_ok-cycle.ensures.value) c.ended.ensures
