-- A byte is the one byte of its number.
use Rattle.words.proofs.General.{◌∙◌, refl}
use Rattle.records.proofs.Stores.{laid_as}
use Rattle.records.proofs.Encoding.{byte_as}
use Rattle.records.proofs.numbers.U8Number.put.Goals as goal

pub returns : goal.returns
returns c = laid_as c.put_bytes.ensures (c.to_le_bytes.ensures ∙ byte_as refl c.ranges.self.fits)
