-- The first record stops the run, or leaves sound tables to the rest.
use Rattle.words.proofs.General.{sym, ◌∙◌}
use Rattle.running.proofs.First.{accepts_begins, begun-held}
use Rattle.trace.proofs.Going.{first_over}
use Rattle.trace.proofs.trace_all.Goals as goal

pub trace_behind-requires : goal.trace_behind-requires
trace_behind-requires c = begun-held (accepts_begins _ c.requires.1 c.begin.ensures) c.in-Ok.is

pub returns-in-Err : goal.returns-in-Err
returns-in-Err c =
    first_over _ c.args.buf.now c.requires.0 (sym (accepts_begins _ c.requires.1 c.begin.ensures).says ∙ c.in-Err.is) c.at_once.ensures
