-- The library's bytes of the number.
use Rattle.words.proofs.General.{◌∙◌, pow-zero, div-one}
use Rattle.records.proofs.Digits.{low_first}
use Rattle.records.proofs.Stores.{laid_as}
use Rattle.records.proofs.numbers.U32Number.put.Goals as goal

pub returns : goal.returns
returns c = laid_as c.put_bytes.ensures (c.to_le_bytes.ensures ∙ low_first 4 0 c.args.self ∙ rw (pow-zero, div-one))
