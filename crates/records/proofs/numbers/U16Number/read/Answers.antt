-- The library's number of the bytes at the place.
use Rattle.words.proofs.General.{arith}
use Rattle.model.proofs.Terms.{number_at}
use Rattle.records.proofs.numbers.U16Number.read.Goals as goal

pub returns : goal.returns
unfolding number_at
returns c = rw (c.from_le_bytes.ensures, c.bytes_at.ensures) (omega arith)
