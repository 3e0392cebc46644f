-- The four ways of reading, by the tests that lead to each.
use Rattle.records.proofs.Reading.{read_end, read_unknown, read_cut, read_whole}
use Rattle.records.proofs.reader.read_at.Goals as goal

pub returns-then-stream-at : goal.returns-then-stream-at
returns-then-stream-at c = read_end _ _ 0 c.if-stream-at.true

pub returns-then-n : goal.returns-then-n
returns-then-n c = read_unknown _ _ _ c.if-stream-at.false c.length_of-n.ensures c.if-n.true

pub returns-then-len-stream : goal.returns-then-len-stream
returns-then-len-stream c = read_whole _ _ _ c.if-stream-at.false c.length_of-n.ensures c.if-n.false c.if-len-stream.true

pub returns-else-len-stream : goal.returns-else-len-stream
returns-else-len-stream c = read_cut _ _ _ c.if-stream-at.false c.length_of-n.ensures c.if-n.false c.if-len-stream.false
