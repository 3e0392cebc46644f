-- Its parts in order.
use Rattle.words.proofs.General.{sym}
use Rattle.std.proofs.lemmas.Result.{err_from_is_err_and}
use Rattle.assembly.specs.Language.{fill_form, parts_from}
use Rattle.assembly.proofs.fill.Goals as goal

pub returns-in_err-address : goal.returns-in_err-address
unfolding fill_form parts_from
returns-in_err-address c =
    let p = err_from_is_err_and c.from_residual.result c.from_residual.ensures.1 in
    rw (p.1, p.2, sym c.in_err-address.ensures.value)

pub returns : goal.returns
unfolding fill_form parts_from
returns c = rw (sym c.in_ok-address.ensures.value) c.ended.ensures
