-- The part that is copied over is what stands there.
use Rattle.words.proofs.General.{arith, refl}
use Rattle.records.proofs.Stores.{copied_over}
use Rattle.records.proofs.numbers.put_bytes.Goals as goal

pub returns : goal.returns
returns g c = record { next = refl; slice = copied_over c.args.out.now c.args.bytes c.args.at g.row.N (omega arith) c.requires (omega arith) c.copy_from_slice.ensures.after }
