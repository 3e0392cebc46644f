-- Nothing without a slice of two numbers; else the struck rounds, and their counts.
use Rattle.exported.proofs.Showing.{uncalled, called}
use Rattle.exported.proofs.demand3.labintugmo_struck.Goals as goal

pub returns-then-counts-ne2 : goal.returns-then-counts-ne2
returns-then-counts-ne2 c = uncalled _ c.if-counts-ne2.true _ _ _

pub returns : goal.returns
returns c =
    called _ (search) _ _ (rw (c.settings_from-s.ensures, c.access_for-x.ensures) at c.run_struck-went.ensures) c.note_went.ensures.number c.note_went.ensures.counts
