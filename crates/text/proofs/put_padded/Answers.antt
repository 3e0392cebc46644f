-- No room, and the characters in front, then the digits.
use Rattle.words.proofs.General.{sym, ◌∙◌, leb-true, leb-false}
use Rattle.text.proofs.Puts.{padded-none, padded_all}
use Rattle.text.proofs.put_padded.Goals as goal

pub returns-then-not-has_room : goal.returns-then-not-has_room
returns-then-not-has_room c =
    padded-none _ _ _ _ _ _ c.count_digits-k.ensures c.saturating_sub-pad.ensures (leb-false _ _ (sym c.has_room.ensures ∙ c.if-not-has_room.true))

pub returns : goal.returns
returns c =
    padded_all _ _ _ _ _ _ c.count_digits-k.ensures c.saturating_sub-pad.ensures (leb-true _ _ (sym c.has_room.ensures ∙ c.if-not-has_room.false)) c.fill.ensures c.spell.ensures
