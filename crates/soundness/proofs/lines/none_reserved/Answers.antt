use Rattle.words.proofs.General.{ap, not, eqb, arith, ◌<◌}
use Rattle.soundness.proofs.Tests.{joined_more, joined_end}
use Rattle.soundness.proofs.OfSectors.{part_read, part_long}
use Rattle.soundness.proofs.lines.none_reserved.Goals as goal

pub loop-status-preserved : goal.loop-status-preserved
loop-status-preserved c =
    let a = c.args in
    let i = c.loop-status.status-index in
    let below : i < 16 = omega (arith, part_long a.marks.now a.first 16 c.requires) in
    joined_more _ _ _ below (ap (λ x. not (eqb x 1)) (part_read a.marks.now a.first 16 i below)) c.loop-status.invariant

pub returns : goal.returns
returns c = joined_end _ _ _ (omega (arith, part_long c.args.marks.now c.args.first 16 c.requires)) c.loop-status.invariant
