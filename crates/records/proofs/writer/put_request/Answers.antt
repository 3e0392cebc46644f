-- The kind and the address, then the word.
use Rattle.words.proofs.General.{suc, ap}
use Rattle.model.proofs.Terms.{bytes_of}
use Rattle.records.proofs.Digits.{length-bytes}
use Rattle.records.proofs.Stores.{laid_then}
use Rattle.records.proofs.writer.put_request.Goals as goal

pub returns : goal.returns
unfolding bytes_of
returns c = laid_then c.put_numbered-i.ensures (ap suc (length-bytes 8 c.args.address)) c.put.ensures
