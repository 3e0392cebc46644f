-- The kinds of a log: the events', and which of them start a group.
use Rattle.std.specs.Prelude.{ℕ, Bool, List, [], ◌∷◌, eqb}
use Rattle.words.specs.Words.{any}
use Rattle.model.specs.Records.{event_kinds}

-- "A group starts at 0x10, 0x11, 0x15, 0x16, 0x17 or 0x18"
abbrev pub starters : List ℕ
starters = 0x10 ∷ 0x11 ∷ 0x15 ∷ 0x16 ∷ 0x17 ∷ 0x18 ∷ []

unfoldable pub starts_group : ℕ → Bool
starts_group k = any (eqb k) starters

-- a kind of the list of events; the commands' are none
unfoldable pub is_event : ℕ → Bool
is_event k = any (λ x. eqb k x.kind) event_kinds
