-- Nothing without a slice of two numbers; else the rounds, and their counts.
use Rattle.exported.proofs.Showing.{uncalled, unflagged, called, flagged}
use Rattle.exported.proofs.demand3.labintugmo_rounds.Goals as goal

pub returns-then-counts-ne2 : goal.returns-then-counts-ne2
returns-then-counts-ne2 c =
    record { shown_called = uncalled _ c.if-counts-ne2.true _ _ _; flags_called = unflagged _ c.if-counts-ne2.true _ _ }

pub returns : goal.returns
returns c =
    let e = rw (c.settings_from-s.ensures, c.access_for-x.ensures) at c.run_rounds-went.ensures in
    record { shown_called = search called; flags_called = search flagged }
