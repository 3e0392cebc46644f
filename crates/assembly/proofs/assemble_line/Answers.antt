-- A line that is bad, and an empty one.
use Rattle.words.proofs.General.{sym}
use Rattle.std.proofs.lemmas.Result.{err_from_is_err_and}
use Rattle.assembly.proofs.Placing.{assembles_empty, assembles_bad}
use Rattle.assembly.proofs.assemble_line.Goals as goal

pub returns-in_err-command : goal.returns-in_err-command
returns-in_err-command c =
    let p = err_from_is_err_and c.from_residual.result c.from_residual.ensures.1 in
    rw (p.1, p.2, sym c.in_err-command.ensures) (assembles_bad _ _ _)

pub returns-in-None : goal.returns-in-None
returns-in-None c = rw (sym c.in_ok-command.ensures, c.in-None.is) (assembles_empty _ _)
