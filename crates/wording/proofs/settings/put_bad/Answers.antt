-- Its pieces, one after another: the body of the record at the front, or nothing.
use Rattle.words.proofs.General.{sym, ap, ◌∙◌, rules}
use Rattle.records.proofs.Reading.{was_whole, body_whole, body_none}
use Rattle.wording.specs.Settings.{first_words}
use Rattle.wording.proofs.Pieces.{put_then, puts_as}
use Rattle.wording.proofs.settings.put_bad.Goals as goal

pub slice_bounds-put_first-count : goal.slice_bounds-put_first-count
slice_bounds-put_first-count c = let w = was_whole _ _ _ _ _ _ (sym c.read_at.ensures ∙ c.in-Ok.is) in search rules

pub slice_bounds-put_first-start : goal.slice_bounds-put_first-start
slice_bounds-put_first-start c = let w = was_whole _ _ _ _ _ _ (sym c.read_at.ensures ∙ c.in-Ok.is) in search rules

pub slice_bounds-put_first-end : goal.slice_bounds-put_first-end
slice_bounds-put_first-end c = let w = was_whole _ _ _ _ _ _ (sym c.read_at.ensures ∙ c.in-Ok.is) in search rules

pub returns-in-Ok : goal.returns-in-Ok
returns-in-Ok c =
    put_then c.put_text-a.ensures (puts_as c.put_first.ensures (ap first_words (body_whole _ _ _ _ _ _ (sym c.read_at.ensures ∙ c.in-Ok.is))))

pub returns-in-Err : goal.returns-in-Err
returns-in-Err c =
    put_then c.put_text-a.ensures (puts_as c.put_first-in-Err.ensures (ap first_words (body_none _ _ _ (sym c.read_at.ensures ∙ c.in-Err.is))))
