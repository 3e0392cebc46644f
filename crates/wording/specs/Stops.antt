-- Why a run stopped, in words, of the bytes at which it did.
use Rattle.std.specs.Prelude.{ℕ, ◌-◌, List, [], ◌∷◌, length, eqb, Option, Some, None}
use Rattle.words.specs.Words.{pick}
use Rattle.model.specs.Records.{is_settings, length_of, no_kind, number_at}
use Rattle.model.specs.declared.Stop.{Stop}
use Rattle.model.specs.declared.Stop.TheVariants as stop
use Rattle.text.specs.Digits.{decimal, hexadecimal}
use Rattle.text.specs.Words.{codes}
use Rattle.wording.specs.Settings.{bad_words}

-- words, then a number
abbrev pub number_words : List ℕ → ℕ → List (List ℕ)
number_words words n = words ∷ decimal n ∷ []

-- a log is easily taken for a stream
abbrev pub unknown_words : ℕ → ℕ → List (List ℕ)
unknown_words kind place =
    codes "unknown kind " ∷ hexadecimal kind ∷ codes " at byte " ∷ decimal place
    ∷ pick (eqb (length_of kind) no_kind) [] (codes ": an event, and a stream has only commands" ∷ [])

abbrev pub cut_words : ℕ → ℕ → ℕ → List (List ℕ)
cut_words kind left place =
    codes "record cut short at byte " ∷ decimal place
    ∷ codes ": kind " ∷ decimal kind
    ∷ codes " wants " ∷ decimal (length_of kind)
    ∷ codes " bytes, " ∷ decimal left
    ∷ codes " are left" ∷ []

-- settings not first, or another kind first
abbrev pub place_words : ℕ → ℕ → List (List ℕ)
place_words kind place =
    pick (is_settings kind)
    (codes "settings at byte " ∷ decimal place ∷ codes ": they stand only at the start of a stream" ∷ [])
    (codes "kind " ∷ decimal kind ∷ codes " at byte " ∷ decimal place ∷ codes ": a stream starts with its settings, kind 0 or 6" ∷ [])

-- stops 2, 3 and 16 come to no program here: the tables are as long as the settings ask and kept sound, events are written out before their room ends
unfoldable pub why_words : Option Stop → List ℕ → ℕ → List (List ℕ)
why_words None rest place = codes "end of input" ∷ []
why_words (Some stop.SettingOutOfRange) rest place = bad_words rest
why_words (Some stop.SliceLength) rest place = codes "tables of another length" ∷ []
why_words (Some stop.NotSound) rest place = codes "tables not sound" ∷ []
why_words (Some stop.OutOfPlace) rest place = place_words (number_at rest 0 1) place
why_words (Some stop.UnknownKind) rest place = unknown_words (number_at rest 0 1) place
why_words (Some stop.CutShort) rest place = cut_words (number_at rest 0 1) (length rest - 1) place
why_words (Some stop.NoRoom) rest place = codes "too little event room" ∷ []
