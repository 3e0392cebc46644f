-- Searches over the numbers below n, and tests on line l by its four status bytes. The functions below `decide` speak of these; proofs/
-- ties them to the lists of Probe. Nothing here is document 01's.
use Rattle.std.specs.Prelude.{ℕ, zero, suc, ◌+◌, Bool, not, ◌&&◌, ◌||◌, List, get_or, leb, Option, Some, None}
use Rattle.words.specs.Words.{pick}
use Rattle.model.specs.Range.{is_fifo, is_tree}
use Rattle.model.specs.Layout.{words_from, cycle_region, taken_region}
use Rattle.model.specs.Lent.{dirty_count_at, tree_at}
use Rattle.model.specs.Probe.{or_else, enough_dirty}
use Rattle.model.specs.Tree.{tree_choice, levels}
use Rattle.model.specs.declared.Settings.{Settings}
use Rattle.tables.specs.Raw.{unused_at, waiting_at, dirty_at, holds_at}

-- ---- searches

-- the first that passes
unfoldable pub first_below : ℕ → (ℕ → Bool) → Option ℕ
first_below zero p = None
first_below (suc n) p = or_else (first_below n p) (pick (p n) (Some n) None)

-- the last that passes
unfoldable pub last_below : ℕ → (ℕ → Bool) → Option ℕ
last_below zero p = None
last_below (suc n) p = pick (p n) (Some n) (last_below n p)

-- w against what is found above it, which it beats unless its key is greater
abbrev pub sooner : (ℕ → ℕ) → ℕ → Option ℕ → Option ℕ
sooner key w None = Some w
sooner key w (Some v) = pick (leb (key w) (key v)) (Some w) (Some v)

-- of the n from w on that pass the one with the least key, the lowest among equals
unfoldable pub least_from : ℕ → ℕ → (ℕ → Bool) → (ℕ → ℕ) → Option ℕ
least_from zero w p key = None
least_from (suc n) w p key = pick (p w) (sooner key w (least_from n (suc w) p key)) (least_from n (suc w) p key)

-- ---- line l, by the bytes

abbrev pub candidate_at : List ℕ → Bool → ℕ → Bool
candidate_at marks enough l = not (waiting_at marks l) && (not (dirty_at marks l) || enough)

-- so many lines of the cache are dirty, by the stored count, that a dirty line may go
abbrev pub enough_in : Settings → List ℕ → Bool
enough_in S words = enough_dirty S (dirty_count_at S words)

-- ---- the `ways` lines from line `base`

abbrev pub found_in : List ℕ → List ℕ → ℕ → ℕ → ℕ → Option ℕ
found_in longs marks base ways b = first_below ways (λ w. holds_at longs marks b (base + w))

abbrev pub last_unused_in : List ℕ → ℕ → ℕ → Option ℕ
last_unused_in marks base ways = last_below ways (λ w. unused_at marks (base + w))

-- by the cycles that begin at `ages`
abbrev pub earliest_in : List ℕ → List ℕ → ℕ → ℕ → ℕ → Bool → Option ℕ
earliest_in words marks ages base ways enough = least_from ways 0 (λ w. candidate_at marks enough (base + w)) (λ w. get_or words (ages + (base + w)) 0)

-- by the set's tree
abbrev pub tree_in : List ℕ → ℕ → ℕ → Bool → ℕ → Option ℕ
tree_in marks base ways enough tree = tree_choice (λ w. candidate_at marks enough (base + w)) tree (levels ways)

-- where the cycles begin by which the rule compares candidates
abbrev pub ages_from : Settings → ℕ
ages_from S = pick (is_fifo S) (words_from S taken_region) (words_from S cycle_region)

-- the candidate that the rule chooses
abbrev pub choice_in : Settings → List ℕ → List ℕ → ℕ → ℕ → Bool → Option ℕ
choice_in S words marks i base enough =
    pick (is_tree S) (tree_in marks base S.ways enough (tree_at S words i)) (earliest_in words marks (ages_from S) base S.ways enough)

-- the way to take over in set i, whose lines begin at `base`
abbrev pub victim_in : Settings → List ℕ → List ℕ → ℕ → ℕ → Bool → Option ℕ
victim_in S words marks i base enough = or_else (last_unused_in marks base S.ways) (choice_in S words marks i base enough)
