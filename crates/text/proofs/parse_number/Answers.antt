-- Behind `0x`, and anywhere else.
use Rattle.words.proofs.General.{sym, ◌∙◌}
use Rattle.text.specs.Digits.{parse_number}
use Rattle.text.proofs.parse_number.Goals as goal

pub returns-then-is_hex : goal.returns-then-is_hex
unfolding parse_number
returns-then-is_hex c = rw (sym c.is_hex.ensures ∙ c.if-is_hex.true) c.number_from.ensures

pub returns-else-is_hex : goal.returns-else-is_hex
unfolding parse_number
returns-else-is_hex c = rw (sym c.is_hex.ensures ∙ c.if-is_hex.false) c.number_from-else-is_hex.ensures
