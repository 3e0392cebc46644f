-- The kind, then the number.
use Rattle.records.proofs.Digits.{length-bytes}
use Rattle.records.proofs.Stores.{laid_then}
use Rattle.records.proofs.writer.put_numbered.Goals as goal

pub returns : goal.returns
returns g c = laid_then c.put-i.ensures (length-bytes 1 _) c.put.ensures
