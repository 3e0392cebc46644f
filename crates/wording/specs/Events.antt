-- Events in words.
use Rattle.std.specs.Prelude.{ℕ, List, [], ◌∷◌}
use Rattle.model.specs.Numbers.{refusal_number}
use Rattle.model.specs.declared.Event.{Event}
use Rattle.model.specs.declared.Event.TheVariants as ev
use Rattle.text.specs.Digits.{decimal, hexadecimal}
use Rattle.text.specs.Words.{codes}
use Rattle.records.specs.Masks.{dirty_bytes}
use Rattle.wording.specs.Names.{answer_name, meaning_of}
use Rattle.wording.specs.Rows.{mask_digits, plural}

-- what becomes of a write-back, its block, the dirty bytes that its masks mark, the masks
abbrev pub back_words : List ℕ → ℕ → ℕ → ℕ → ℕ → ℕ → List (List ℕ)
back_words what b m0 m1 m2 m3 =
    what ∷ codes " " ∷ hexadecimal b
    ∷ codes ", " ∷ decimal (dirty_bytes m0 m1 m2 m3) ∷ codes " dirty byte" ∷ plural (dirty_bytes m0 m1 m2 m3)
    ∷ codes ", masks " ∷ mask_digits m0 ∷ codes " " ∷ mask_digits m1 ∷ codes " " ∷ mask_digits m2 ∷ codes " " ∷ mask_digits m3 ∷ []

unfoldable pub event_words : Event → List (List ℕ)
event_words (ev.Answered a line) = codes "answer " ∷ answer_name a ∷ codes " line " ∷ decimal line ∷ []
event_words (ev.Refused n) = codes "refused " ∷ decimal (refusal_number n) ∷ codes " (" ∷ meaning_of n ∷ codes ")" ∷ []
event_words (ev.ReadQueued a) = codes "read queued " ∷ hexadecimal a ∷ []
event_words (ev.WriteBackQueued b m0 m1 m2 m3) = back_words (codes "write-back queued") b m0 m1 m2 m3
event_words (ev.Released t) = codes "released ticket " ∷ decimal t ∷ []
event_words (ev.ReadSent a) = codes "read sent " ∷ hexadecimal a ∷ []
event_words (ev.WriteBackSent b m0 m1 m2 m3) = back_words (codes "write-back sent") b m0 m1 m2 m3
event_words (ev.Filled a) = codes "filled " ∷ hexadecimal a ∷ []
event_words ev.Ticked = codes "ticked" ∷ []
