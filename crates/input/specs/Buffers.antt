-- A buffer with more bytes behind those that it has, and one whose unused bytes went to its front.
use Rattle.std.specs.Prelude.{ℕ, ◌+◌, ◌-◌, ◌<◌, ◌≤◌, Bool, true, false, ◌&&◌, ◌≡◌, Result, Ok, Err, List, ◌++◌, length, take, drop, leb}
use Rattle.words.specs.Words.{pick}
use Rattle.input.specs.declared.NoMore.{NoMore}
use Rattle.input.specs.declared.NoMore.TheVariants as no
use Rattle.input.specs.declared.Waiting.{Waiting}

-- what is read is the system's to say: how far the bytes now go, within the buffer; or that they end, behind those that it has
abbrev pub Reaches : ℕ → ℕ → Result ℕ NoMore → Type 0
Reaches have size (Ok n) = (have < n) × (n ≤ size)
Reaches have size (Err (no.End e)) = e.behind ≡ have
Reaches have size (Err no.Full) = size ≤ have
Reaches have size (Err (no.Failed why)) = Unit

-- r is what reading into l behind its first `have` bytes came to, and l₁ the buffer then: those bytes stand as before
pub record Read (l : List ℕ) (have : ℕ) (r : Result ℕ NoMore) (l₁ : List ℕ) : Type 0 where
  pub reaches : Reaches have (length l) r
  pub before : take have l₁ ≡ take have l

-- the bytes now go further, and those that may still come are fewer by as many; or they end there
abbrev pub Grows : ℕ → ℕ → ℕ → Result Waiting NoMore → Type 0
Grows have left size (Ok w) = (have < w.have) × (w.have ≤ size) × (w.have + w.left ≡ have + left)
Grows have left size (Err (no.End e)) = e.behind ≡ have
Grows have left size (Err no.Full) = size ≤ have
Grows have left size (Err (no.Failed why)) = Unit

pub record Grown (l : List ℕ) (have left : ℕ) (r : Result Waiting NoMore) (l₁ : List ℕ) : Type 0 where
  pub grows : Grows have left (length l) r
  pub before : take have l₁ ≡ take have l

-- a bound on the turns of a loop that goes on as long as its flag says and reads in each: one a byte that may still come, and one
-- that finds the end
abbrev pub turns_left : Bool → ℕ → ℕ
turns_left true left = left + 1
turns_left false left = 0

-- n bytes from an index on, moved to the front
abbrev pub moved_down : List ℕ → ℕ → ℕ → List ℕ
moved_down l from n = take n (drop from l) ++ drop n l

-- the bytes from one index to another, moved to the front; as before where these are no part of l
unfoldable pub carried : List ℕ → ℕ → ℕ → List ℕ
carried l from to = pick (leb from to && leb to (length l)) (moved_down l from (to - from)) l

unfoldable pub carried_count : List ℕ → ℕ → ℕ → ℕ
carried_count l from to = pick (leb from to && leb to (length l)) (to - from) 0
