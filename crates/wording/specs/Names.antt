-- What answers and settings are called and what refusals mean, as text.
use Rattle.std.specs.Prelude.{ℕ, ◌+◌, List, [], ◌∷◌, ◌++◌, get_or}
use Rattle.model.specs.declared.Answer.{Answer}
use Rattle.model.specs.declared.Refusal.{Refusal}
use Rattle.model.specs.Numbers.{answer_number, refusal_number}
use Rattle.text.specs.Words.{codes}

-- by document 01's number, from 1 on
abbrev pub answer_names : List (List ℕ)
answer_names = codes "HIT" ∷ codes "HIT_RESERVED" ∷ codes "MISS" ∷ codes "SECTOR_MISS" ∷ []

-- by document 01's number, from 1 on
abbrev pub meanings : List (List ℕ)
meanings =
    codes "a setting outside its range"
    ∷ codes "a lent slice of another length"
    ∷ codes "tables not sound"
    ∷ codes "an address or a mask that is not allowed"
    ∷ codes "set busy: a way waits for a fill, none may go"
    ∷ codes "set held: every way is dirty and has to stay"
    ∷ codes "too few free queue places"
    ∷ codes "the entry has all its readers"
    ∷ codes "the miss table is full"
    ∷ codes "fill: no sent entry with that address"
    ∷ codes "tick to an earlier cycle or above the last"
    ∷ codes "send: queue empty"
    ∷ []

-- those with a range, in a settings record's order
abbrev pub setting_names : List (List ℕ)
setting_names = codes "ways" ∷ codes "dirty" ∷ codes "misses" ∷ codes "readers" ∷ codes "queue" ∷ []

-- all of them, behind none
abbrev pub names : List (List ℕ)
names = [] ∷ (answer_names ++ (meanings ++ setting_names))

unfoldable pub name_of : ℕ → List ℕ
name_of n = get_or names n []

abbrev pub answer_name : Answer → List ℕ
answer_name a = name_of (answer_number a)

abbrev pub meaning_of : Refusal → List ℕ
meaning_of n = name_of (4 + refusal_number n)
