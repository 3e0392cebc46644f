-- The kind, the answer, the line.
use Rattle.model.specs.RecordsOf as records
use Rattle.model.proofs.Terms.{bytes_of}
use Rattle.words.proofs.General.{refl}
use Rattle.records.proofs.Stores.{laid_then}
use Rattle.records.proofs.writer.put_answer.Goals as goal

pub returns : goal.returns
unfolding records.event_bytes bytes_of
returns c = rw c.from.ensures at (laid_then c.put-i.ensures refl (laid_then c.put-j.ensures refl c.put.ensures))
