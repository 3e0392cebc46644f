-- Below 1, above 12, and by the table between.
use Rattle.records.proofs.Decoding.{refusal_named}
use Rattle.records.proofs.reader.refusal_event.Goals as goal

pub returns : goal.returns
returns c = refusal_named _ _ c.if-k-lt1.false c.if-k-gt12.false
