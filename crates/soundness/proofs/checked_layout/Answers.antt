use Rattle.words.proofs.General.{ap, not, said_yes}
use Rattle.layout.proofs.OfRange.{lengths_fit_lem}
use Rattle.soundness.proofs.checked_layout.Goals as goal

pub invariant_of-t : goal.invariant_of-t
invariant_of-t c =
    let a = c.args in
    let fits = lengths_fit_lem a.s a.longs.now a.words.now a.marks.now (said_yes c.in_range.ensures (ap not c.if-not-in_range.false)) (said_yes c.lengths_fit.ensures (ap not c.if-not-lengths_fit.false)) in
    record { sized = rw c.new-geometry.ensures fits }
