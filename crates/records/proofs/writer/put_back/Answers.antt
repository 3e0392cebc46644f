-- The kind and the block, then each mask.
use Rattle.words.proofs.General.{suc, ap}
use Rattle.model.proofs.Terms.{bytes_of}
use Rattle.records.proofs.Digits.{length-bytes}
use Rattle.records.proofs.Stores.{laid_then}
use Rattle.records.proofs.writer.put_back.Goals as goal

pub returns : goal.returns
unfolding bytes_of
returns c =
    laid_then c.put_numbered-i.ensures (ap suc (length-bytes 8 c.args.block)) (laid_then c.put-j.ensures (length-bytes 4 c.args.m0)
    (laid_then c.put-k.ensures (length-bytes 4 c.args.m1) (laid_then c.put-l.ensures (length-bytes 4 c.args.m2) c.put.ensures)))
