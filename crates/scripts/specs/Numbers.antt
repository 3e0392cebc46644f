-- The numbers of a script's line.
use Rattle.std.specs.Prelude.{ℕ, List, length, Result, Ok, Err}
use Rattle.text.specs.Words.{skip_spaces}
use Rattle.text.specs.Digits.{parse_number}
use Rattle.text.specs.declared.Number.{Number}
use Rattle.text.specs.declared.NotANumber.{NotANumber}

-- a number that was found, or 0 at the end of s
abbrev pub or_none : List ℕ → Result Number NotANumber → Number
or_none s (Ok n) = n
or_none s (Err e) = record { value = 0; next = length s }

-- the next word of s as a number
abbrev pub number_word : List ℕ → ℕ → Number
number_word s at = or_none s (parse_number s (skip_spaces s at))
