-- The table's rule, and that no kind is past it.
use Rattle.words.proofs.General.{sym}
use Rattle.records.proofs.Lengths.{length_is, length-past}
use Rattle.records.proofs.reader.length_of.Goals as goal

pub returns-then-k-lt25 : goal.returns-then-k-lt25
returns-then-k-lt25 c = length_is c.args.kind c.if-k-lt25.true

pub returns-else-k-lt25 : goal.returns-else-k-lt25
returns-else-k-lt25 c = sym (length-past c.args.kind c.if-k-lt25.false)
