-- The stored count of dirty lines.
use Rattle.words.proofs.General.{arith, refl}
use Rattle.layout.proofs.DirtyCount.{dirty_few}
use Rattle.probe.proofs.Meetings.{share_fits}
use Rattle.reasons.proofs.Entries.{slices_fit}
use Rattle.reasons.proofs.Heads.{lines_shown}
use Rattle.reasons.proofs.held_reason.Goals as goal

pub offset_bounds-words-g : goal.offset_bounds-words-g
offset_bounds-words-g c = omega (arith, slices_fit c.requires, c.args.g.laid.dirty)

pub bounds-words-g : goal.bounds-words-g
bounds-words-g c = omega (arith, slices_fit c.requires, c.args.g.laid.dirty)

pub missing_lines-missing-requires : goal.missing_lines-missing-requires
missing_lines-missing-requires c =
    let z = slices_fit c.requires in
    (share_fits z.dirty z.lines, dirty_few _ _ c.requires.are c.args.g.laid)

pub returns : goal.returns
returns c = record { on = λ t i. lines_shown _ t i c.args.g.laid refl c.missing_lines-missing.ensures }
