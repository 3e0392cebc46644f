-- Its parts in order.
use Rattle.words.proofs.General.{sym}
use Rattle.std.proofs.lemmas.Result.{err_from_is_err_and}
use Rattle.assembly.specs.Language.{read_form, parts_from}
use Rattle.assembly.proofs.read.Goals as goal

pub returns-in_err-address : goal.returns-in_err-address
unfolding read_form parts_from
returns-in_err-address c =
    let p = err_from_is_err_and c.from_residual.result c.from_residual.ensures.1 in
    rw (p.1, p.2, sym c.in_err-address.ensures.value)

pub returns-in_err-ticket : goal.returns-in_err-ticket
unfolding read_form parts_from
returns-in_err-ticket c =
    let p = err_from_is_err_and c.from_residual-in_err-ticket.result c.from_residual-in_err-ticket.ensures.1 in
    rw (p.1, p.2, sym c.in_ok-address.ensures.value, sym c.in_err-ticket.ensures.value)

pub returns : goal.returns
unfolding read_form parts_from
returns c = rw (sym c.in_ok-address.ensures.value, sym c.in_ok-ticket.ensures.value) c.ended.ensures
