-- The replacement rules by name: what a word names, and what a rule byte is called.
use Rattle.std.specs.Prelude.{ℕ, suc, List, [], ◌∷◌, length, get_or, ltb, Option, Some, None}
use Rattle.words.specs.Words.{pick}
use Rattle.text.specs.Words.{codes, same_text}
use Rattle.text.specs.Digits.{decimal}

-- a name at its byte
abbrev pub rule_names : List (List ℕ)
rule_names = codes "lru" ∷ codes "fifo" ∷ codes "tree" ∷ []

-- the rule that a word names, of names from byte n on
unfoldable pub rule_from : ℕ → List (List ℕ) → List ℕ → Option ℕ
rule_from n [] w = None
rule_from n (x ∷ xs) w = pick (same_text w x) (Some n) (rule_from (suc n) xs w)

abbrev pub rule_named : List ℕ → Option ℕ
rule_named w = rule_from 0 rule_names w

-- the name of a rule byte; the number where it has none
unfoldable pub rule_name : ℕ → List ℕ
rule_name n = pick (ltb n (length rule_names)) (get_or rule_names n []) (decimal n)
