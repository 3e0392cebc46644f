-- Words for the raw numbers of the lent slices, which the leaves' contracts speak of.
use Rattle.std.specs.Prelude.{ℕ, ◌+◌, ◌*◌, ◌≤◌, ◌<◌, ◌≡◌, Bool, not, ◌&&◌, ◌||◌, List, [], ◌∷◌, ◌++◌, take, drop, replicate, get_or, eqb, ltb}
use Rattle.model.specs.Numbers.{queue_kind_of}
use Rattle.model.specs.Lent.{tag_at, status_at}
use Rattle.model.specs.declared.Queued.{Queued}

-- the head of the queue
abbrev pub front_at : List ℕ → ℕ → List ℕ → ℕ → List ℕ → ℕ → Queued
front_at longs lq words wq marks mq = record {
  kind = queue_kind_of (get_or marks mq 0);
  address = get_or longs lq 0;
  masks = get_or words wq 0 ∷ get_or words (wq + 1) 0 ∷ get_or words (wq + 2) 0 ∷ get_or words (wq + 3) 0 ∷ [];
}

-- l when of the n elements from index `at` the first `by` go, the others close up, and as many times `zero` stand at the end
abbrev pub closed_with : {A : Type 0} → A → List A → ℕ → ℕ → ℕ → List A
closed_with zero l at n by = take at l ++ ((drop by (take n (drop at l)) ++ replicate by zero) ++ drop (at + n) l)

-- of a row of numbers from index `at`, those from number n on are 0
abbrev pub ZerosFrom : List ℕ → ℕ → ℕ → ℕ → Type 0
ZerosFrom l at n row = (j : ℕ) → n ≤ j → j < row → get_or l (at + j) 0 ≡ 0

-- ---- line l

-- four numbers as one, the last the lowest byte
abbrev pub four_bytes : ℕ → ℕ → ℕ → ℕ → ℕ
four_bytes a b c d = ((a * 256 + b) * 256 + c) * 256 + d

abbrev pub statuses_at : List ℕ → ℕ → ℕ
statuses_at marks l =
    four_bytes (status_at marks (4 * l + 3)) (status_at marks (4 * l + 2)) (status_at marks (4 * l + 1)) (status_at marks (4 * l))

-- all four statuses are 0
abbrev pub unused_at : List ℕ → ℕ → Bool
unused_at marks l =
    eqb (status_at marks (4 * l)) 0 && eqb (status_at marks (4 * l + 1)) 0 && eqb (status_at marks (4 * l + 2)) 0 && eqb (status_at marks (4 * l + 3)) 0

abbrev pub waiting_at : List ℕ → ℕ → Bool
waiting_at marks l =
    eqb (status_at marks (4 * l)) 1 || eqb (status_at marks (4 * l + 1)) 1 || eqb (status_at marks (4 * l + 2)) 1 || eqb (status_at marks (4 * l + 3)) 1

-- a number above 2 reads as MODIFIED
abbrev pub dirty_at : List ℕ → ℕ → Bool
dirty_at marks l =
    ltb 2 (status_at marks (4 * l)) || ltb 2 (status_at marks (4 * l + 1)) || ltb 2 (status_at marks (4 * l + 2)) || ltb 2 (status_at marks (4 * l + 3))

-- neither RESERVED nor MODIFIED
abbrev pub clean_at : List ℕ → ℕ → Bool
clean_at marks l = not (waiting_at marks l) && not (dirty_at marks l)

-- it has this tag and a status that isn't 0
abbrev pub holds_at : List ℕ → List ℕ → ℕ → ℕ → Bool
holds_at longs marks b l = eqb (tag_at longs l) b && not (unused_at marks l)
