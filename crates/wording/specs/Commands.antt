-- Commands in the assembler's own language.
use Rattle.std.specs.Prelude.{ℕ, List, [], ◌∷◌, Option, Some, None}
use Rattle.model.specs.declared.Given.{Given}
use Rattle.model.specs.declared.Command.{Command}
use Rattle.model.specs.declared.Command.TheVariants as cmd
use Rattle.text.specs.Digits.{decimal, hexadecimal}
use Rattle.text.specs.Rules.{rule_name}
use Rattle.text.specs.Words.{codes}

-- a rule that is given, by its name if it has one
abbrev pub rule_words : Option ℕ → List (List ℕ)
rule_words None = []
rule_words (Some n) = codes " rule " ∷ rule_name n ∷ []

abbrev pub settings_words : Given → List (List ℕ)
settings_words g =
    codes "settings sets " ∷ decimal g.sets
    ∷ codes " ways " ∷ decimal g.ways
    ∷ codes " dirty " ∷ decimal g.dirty
    ∷ codes " misses " ∷ decimal g.misses
    ∷ codes " readers " ∷ decimal g.readers
    ∷ codes " queue " ∷ decimal g.queue
    ∷ rule_words g.rule

unfoldable pub command_words : Command → List (List ℕ)
command_words (cmd.Settings g) = settings_words g
command_words (cmd.Read a k) = codes "read " ∷ hexadecimal a ∷ codes " ticket " ∷ decimal k ∷ []
command_words (cmd.Write a m) = codes "write " ∷ hexadecimal a ∷ codes " mask " ∷ hexadecimal m ∷ []
command_words cmd.Send = codes "send" ∷ []
command_words (cmd.Fill a) = codes "fill " ∷ hexadecimal a ∷ []
command_words (cmd.Tick c) = codes "tick " ∷ decimal c ∷ []
