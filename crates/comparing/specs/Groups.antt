-- The groups of a log, as parts of it. What is said of a log that is refused only makes the definitions total.
use Rattle.std.specs.Prelude.{ℕ, zero, suc, ◌+◌, ◌-◌, min, List, [], ◌∷◌, length, ltb, get_or}
use Rattle.words.specs.Words.{pick}
use Rattle.model.specs.Records.{length_of}
use Rattle.model.specs.Records as records
use Rattle.comparing.specs.declared.Part.{Part}
use Rattle.comparing.specs.Kinds.{starts_group}

-- where the record at a place ends: a byte of kind, then its body
unfoldable pub record_end : List ℕ → ℕ → ℕ
record_end s at = at + 1 + length_of (get_or s at 0)

-- the place behind the record at a place, no further than the log goes
unfoldable pub record_past : List ℕ → ℕ → ℕ
record_past s at = min (record_end s at) (length s)

-- from a place inside a group on, n records at most: the place of the next start, or the log's end
unfoldable pub end_from : ℕ → List ℕ → ℕ → ℕ
end_from zero s at = at
end_from (suc n) s at = pick (ltb at (length s)) (pick (starts_group (get_or s at 0)) at (end_from n s (record_past s at))) at

-- "and runs to the next start": the end of the group that begins at a place; the place itself where no byte is left
unfoldable pub group_end : List ℕ → ℕ → ℕ
group_end s at = pick (ltb at (length s)) (end_from (length s) s (record_past s at)) at

abbrev pub part_to : ℕ → ℕ → Part
part_to at end = record { place = at; size = end - at }

abbrev pub bytes_in : List ℕ → Part → List ℕ
bytes_in s p = records.part s p.place p.size

-- the groups from a place on, n at most, one behind the other
unfoldable pub groups_from : ℕ → List ℕ → ℕ → List Part
groups_from zero s at = []
groups_from (suc n) s at = pick (ltb at (length s)) (part_to at (group_end s at) ∷ groups_from n s (group_end s at)) []

-- a group is a byte or more
unfoldable pub groups : List ℕ → List Part
groups s = groups_from (length s) s 0

-- "where one log has run out, its side is the empty part at its end"
unfoldable pub group_side : List ℕ → ℕ → Part
group_side s n = get_or (groups s) n (record { place = length s; size = 0 })
