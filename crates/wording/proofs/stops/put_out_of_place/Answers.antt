-- Settings, or another kind.
use Rattle.words.proofs.General.{sym, ◌∙◌}
use Rattle.wording.proofs.stops.put_out_of_place.Goals as goal

pub returns-then-is_settings : goal.returns-then-is_settings
returns-then-is_settings c = rw (sym c.is_settings.ensures ∙ c.if-is_settings.true) c.put_all.ensures

pub returns : goal.returns
returns c = rw (sym c.is_settings.ensures ∙ c.if-is_settings.false) c.put_all-2.ensures
