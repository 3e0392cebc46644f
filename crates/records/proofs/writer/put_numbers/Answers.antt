-- The sets, then a byte each.
use Rattle.model.proofs.Terms.{bytes_of}
use Rattle.words.proofs.General.{refl}
use Rattle.records.proofs.Stores.{laid_then}
use Rattle.records.proofs.writer.put_numbers.Goals as goal

pub returns : goal.returns
unfolding bytes_of
returns c =
    laid_then c.put-i.ensures refl (laid_then c.put-j.ensures refl (laid_then c.put-k.ensures refl
    (laid_then c.put-l.ensures refl (laid_then c.put-m.ensures refl c.put.ensures))))
