-- The record that was read by what it is, or why there is none.
use Rattle.words.proofs.General.{◌∙◌, sym, rules}
use Rattle.records.proofs.Reading.{was_whole}
use Rattle.records.proofs.Items.{item_end, item_stopped_lem, item_whole_lem}
use Rattle.records.proofs.reader.item_at.Goals as goal

pub returns-then-stream-at : goal.returns-then-stream-at
returns-then-stream-at c = item_end _ _ c.if-stream-at.true

pub slice_bounds-body-count : goal.slice_bounds-body-count
slice_bounds-body-count c = let w = was_whole _ _ _ _ _ _ (sym c.read_at.ensures ∙ c.in-Ok.is) in search rules

pub slice_bounds-body-start : goal.slice_bounds-body-start
slice_bounds-body-start c = let w = was_whole _ _ _ _ _ _ (sym c.read_at.ensures ∙ c.in-Ok.is) in search rules

pub slice_bounds-body-end : goal.slice_bounds-body-end
slice_bounds-body-end c = let w = was_whole _ _ _ _ _ _ (sym c.read_at.ensures ∙ c.in-Ok.is) in search rules

pub returns-in-Ok : goal.returns-in-Ok
returns-in-Ok c = search item_whole_lem

pub returns-in-Err : goal.returns-in-Err
returns-in-Err c = search item_stopped_lem
