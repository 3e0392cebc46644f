-- The layout: each lent slice is a list of regions of these sizes, and each region is named by its number in the slice. Lengths, places
-- and the blocks of `encode` (Lent) come from here. A request adds its region at the end of its slice, so that no region moves.
use Rattle.std.specs.Prelude.{ℕ, zero, suc, ◌+◌, ◌*◌, List, [], ◌∷◌}
use Rattle.model.specs.Range.{lines_of}
use Rattle.model.specs.declared.Settings.{Settings}

-- ---- "slices of 64-bit and 32-bit numbers, of lengths fixed by the settings, beside bytes for status"

-- 64-bit numbers: tags, miss addresses, queue addresses
abbrev pub long_sizes : Settings → List ℕ
long_sizes S = lines_of S ∷ S.misses ∷ S.queue ∷ []

-- 32-bit numbers: the current cycle, cycles, masks, tickets, queue masks, the dirty count, taken cycles, trees
abbrev pub word_sizes : Settings → List ℕ
word_sizes S = 1 ∷ lines_of S ∷ 4 * lines_of S ∷ S.readers * S.misses ∷ 4 * S.queue ∷ 1 ∷ lines_of S ∷ S.sets ∷ []

-- bytes: statuses, readable marks, sent marks, ticket counts, queue kinds
abbrev pub mark_sizes : Settings → List ℕ
mark_sizes S = 4 * lines_of S ∷ 4 * lines_of S ∷ S.misses ∷ S.misses ∷ S.queue ∷ []

-- ---- the regions by number

abbrev pub tag_region : ℕ
tag_region = 0

abbrev pub miss_region : ℕ
miss_region = 1

abbrev pub queue_region : ℕ
queue_region = 2

abbrev pub now_region : ℕ
now_region = 0

abbrev pub cycle_region : ℕ
cycle_region = 1

abbrev pub mask_region : ℕ
mask_region = 2

abbrev pub ticket_region : ℕ
ticket_region = 3

abbrev pub queue_mask_region : ℕ
queue_mask_region = 4

abbrev pub dirty_count_region : ℕ
dirty_count_region = 5

abbrev pub taken_region : ℕ
taken_region = 6

abbrev pub tree_region : ℕ
tree_region = 7

abbrev pub status_region : ℕ
status_region = 0

abbrev pub readable_region : ℕ
readable_region = 1

abbrev pub sent_region : ℕ
sent_region = 2

abbrev pub ticket_count_region : ℕ
ticket_count_region = 3

abbrev pub kind_region : ℕ
kind_region = 4

-- ---- lengths and places

abbrev pub sum_from : ℕ → List ℕ → ℕ
sum_from n [] = n
sum_from n (m ∷ ms) = sum_from (n + m) ms

-- the length of a slice of these regions
abbrev pub total : List ℕ → ℕ
total [] = 0
total (n ∷ ns) = sum_from n ns

abbrev pub offset_from : ℕ → List ℕ → ℕ → ℕ
offset_from n ms zero = n
offset_from n [] (suc j) = n
offset_from n (m ∷ ms) (suc j) = offset_from (n + m) ms j

-- where region j begins: behind those before it
abbrev pub offset_of : List ℕ → ℕ → ℕ
offset_of ns zero = 0
offset_of [] (suc j) = 0
offset_of (n ∷ ns) (suc j) = offset_from n ns j

abbrev pub longs_length : Settings → ℕ
longs_length S = total (long_sizes S)

abbrev pub words_length : Settings → ℕ
words_length S = total (word_sizes S)

abbrev pub marks_length : Settings → ℕ
marks_length S = total (mark_sizes S)

abbrev pub longs_from : Settings → ℕ → ℕ
longs_from S j = offset_of (long_sizes S) j

abbrev pub words_from : Settings → ℕ → ℕ
words_from S j = offset_of (word_sizes S) j

abbrev pub marks_from : Settings → ℕ → ℕ
marks_from S j = offset_of (mark_sizes S) j
