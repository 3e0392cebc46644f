-- By what was read: the body of a whole record lies within the stream.
use Rattle.std.proofs.Common.{refl}
use Rattle.reader.proofs.Places.{body_ordered, body_within, part_whole, part_none}
use Rattle.reader.proofs.body_part.Goals as goal

pub slice_bounds-result-count : goal.slice_bounds-result-count
slice_bounds-result-count c = body_ordered _ _ c.read_at.ensures c.in-Ok.is

pub slice_bounds-result-start : goal.slice_bounds-result-start
slice_bounds-result-start c = body_ordered _ _ c.read_at.ensures c.in-Ok.is

pub slice_bounds-result-end : goal.slice_bounds-result-end
slice_bounds-result-end c = body_within _ _ c.read_at.ensures c.in-Ok.is

pub returns-in-Ok : goal.returns-in-Ok
returns-in-Ok c = part_whole _ _ _ c.read_at.ensures c.in-Ok.is refl refl

pub returns-in-Err : goal.returns-in-Err
returns-in-Err c = part_none _ _ _ c.read_at.ensures c.in-Err.is refl refl
