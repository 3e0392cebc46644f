use Rattle.words.proofs.General.{sym, ◌∙◌}
use Rattle.layout.proofs.Stores.{one-put}
use Rattle.access.proofs.writes.mark_taken.Goals as goal

pub returns-then-takes_line : goal.returns-then-takes_line
returns-then-takes_line c = rw (sym c.takes_line.ensures ∙ c.if-takes_line.true) (one-put _ _ _ c.requires.0)
