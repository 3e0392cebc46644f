use Rattle.words.proofs.General.{◌*◌}
use Rattle.model.proofs.Terms.{lines_of}
use Rattle.model.specs.SoundLent as is
use Rattle.layout.specs.Held.{held}
use Rattle.soundness.proofs.Tests.{every-both}
use Rattle.soundness.proofs.lines.sectors_fine.Goals as goal

pub returns : goal.returns
returns c =
    let t = c.args.f.now.slices in
    rw (c.sectors_shaped.ensures, c.sectors_backed.ensures)
    (every-both (held t is.sector_shape) (held t is.sector_backed) (4 * lines_of t.geometry.settings))
