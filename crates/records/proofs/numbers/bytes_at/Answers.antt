-- The bytes that are there, and zeros.
use Rattle.records.proofs.Digits.{bytes_within}
use Rattle.records.proofs.numbers.bytes_at.Goals as goal

pub returns : goal.returns
returns g c = rw c.copy_from_slice.ensures.after (bytes_within c.args.b.now g.row.N c.args.at _ _ c.min.ensures c.min-n.ensures)
