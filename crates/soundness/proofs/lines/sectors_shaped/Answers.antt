use Rattle.words.proofs.General.{rules}
use Rattle.soundness.proofs.OfSectors.{shaped_sectors}
use Rattle.soundness.proofs.lines.sectors_shaped.Goals as goal

pub returns : goal.returns
returns c = search (rules, shaped_sectors)
