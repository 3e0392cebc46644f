-- No word is there, or the command's words are read.
use Rattle.words.proofs.General.{sym}
use Rattle.std.proofs.lemmas.Result.{err_from_is_err_and}
use Rattle.assembly.specs.Language.{parse_line}
use Rattle.assembly.proofs.parse_line.Goals as goal

pub returns-then-ends_at : goal.returns-then-ends_at
unfolding parse_line
returns-then-ends_at c = rw (sym c.if-ends_at.ensures)

pub returns-in_err-command_in : goal.returns-in_err-command_in
unfolding parse_line
returns-in_err-command_in c =
    let p = err_from_is_err_and c.from_residual.result c.from_residual.ensures.1 in
    rw (p.1, p.2, sym c.if-ends_at.ensures, sym c.in_err-command_in.ensures)

pub returns : goal.returns
unfolding parse_line
returns c = rw (sym c.if-ends_at.ensures, sym c.in_ok-command_in.ensures)
