-- What a piece of a line is as text, and a setting with its range.
use Rattle.std.specs.Prelude.{ℕ, List}
use Rattle.text.specs.Digits.{decimal, hexadecimal}
use Rattle.text.specs.Rules.{rule_name}
use Rattle.wording.specs.Rows.{mask_digits}
use Rattle.wording.specs.Settings.{SettingRange, setting_range}
use Rattle.wording.specs.declared.settings.Ranged.{Ranged}
use Rattle.wording.specs.declared.rows.Piece.{Piece}
use Rattle.wording.specs.declared.rows.Piece.TheVariants.{Words, Decimal, Hex, Mask, Rule}

abbrev pub shown : Piece → List ℕ
shown (Words s) = s.now
shown (Decimal n) = decimal n
shown (Hex n) = hexadecimal n
shown (Mask m) = mask_digits m
shown (Rule n) = rule_name n

abbrev pub range_of : Ranged → SettingRange
range_of x = setting_range x.name.now x.number x.least x.most
