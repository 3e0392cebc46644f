-- Which setting of a settings record is outside its range, in words.
use Rattle.std.specs.Prelude.{ℕ, not, ◌&&◌, List, [], ◌∷◌, eqb, leb}
use Rattle.words.specs.Words.{pick, within}
use Rattle.model.specs.Range.{power_to256}
use Rattle.model.specs.Tree.{power_to16}
use Rattle.model.specs.Records.{settings_in, body_at}
use Rattle.model.specs.declared.Settings.{Settings}
use Rattle.text.specs.Digits.{decimal}
use Rattle.text.specs.Words.{codes}

-- a setting with its range
pub record SettingRange : Type 0 where
  pub name : List ℕ
  pub number : ℕ
  pub least : ℕ
  pub most : ℕ

abbrev pub setting_range : List ℕ → ℕ → ℕ → ℕ → SettingRange
setting_range name n least most = record { name = name; number = n; least = least; most = most }

-- in a settings record's order
abbrev pub ranged_of : Settings → List SettingRange
ranged_of S =
    setting_range (codes "ways") S.ways 1 16
    ∷ setting_range (codes "dirty") S.dirty 0 100
    ∷ setting_range (codes "misses") S.misses 1 64
    ∷ setting_range (codes "readers") S.readers 1 8
    ∷ setting_range (codes "queue") S.queue 2 64
    ∷ []

abbrev pub range_words : SettingRange → List (List ℕ)
range_words x = x.name ∷ codes " is " ∷ decimal x.number ∷ codes ", and has to be " ∷ decimal x.least ∷ codes " to " ∷ decimal x.most ∷ []

-- the first of them that is outside its range; other words where none is
unfoldable pub outside_words : List SettingRange → List (List ℕ) → List (List ℕ)
outside_words [] other = other
outside_words (x ∷ xs) other = pick (within x.least x.most x.number) (outside_words xs other) (range_words x)

-- where those are in range: the rule, or ways and rule together, or sets and ways
unfoldable pub last_words : ℕ → ℕ → List (List ℕ)
last_words ways rule =
    pick (leb rule 2)
    (pick (eqb rule 2 && not (power_to16 ways))
    (codes "ways is " ∷ decimal ways ∷ codes ", and has to be a power of two under rule tree" ∷ [])
    (codes "sets times ways has to be at most 1024" ∷ []))
    (codes "rule is " ∷ decimal rule ∷ codes ", and has to be 0, 1 or 2" ∷ [])

-- of a settings record's body, behind its sets
abbrev pub ranged_words : List ℕ → List (List ℕ)
ranged_words b = outside_words (ranged_of (settings_in b)) (last_words (settings_in b).ways (settings_in b).rule)

-- of a settings record's body
abbrev pub first_words : List ℕ → List (List ℕ)
first_words b =
    pick (power_to256 (settings_in b).sets)
    (ranged_words b)
    (codes "sets is " ∷ decimal (settings_in b).sets ∷ codes ", and has to be a power of two, 1 to 256" ∷ [])

-- of the settings record at the front of s
abbrev pub bad_words : List ℕ → List (List ℕ)
bad_words s = codes "bad settings at byte 0: " ∷ first_words (body_at s 0)
