-- "Rule byte 2": each set has a binary tree over its ways, a number with one bit a node. Halves are numbers: 0 the lower, 1 the upper.
-- A span of ways stands below each node: 2^k ways from the way `first`. Node 1 has all ways of the set.
use Rattle.std.specs.Prelude.{ℕ, zero, suc, ◌+◌, ◌*◌, ◌-◌, ◌/◌, ◌%◌, ◌^◌, ◌≤◌, ◌≡◌, Bool, [], ◌∷◌, eqb, ltb, leb, Option, Some, None}
use Rattle.words.specs.Words.{pick, any, some}

-- ---- bits

-- bit i of t
unfoldable pub tree_bit : ℕ → ℕ → ℕ
tree_bit t i = t / 2 ^ i % 2

-- t with h as its bit i
unfoldable pub with_bit : ℕ → ℕ → ℕ → ℕ
with_bit t zero h = t / 2 * 2 + h
with_bit t (suc i) h = with_bit (t / 2) i h * 2 + t % 2

-- a mask of ways: bit w for way w
abbrev pub is_in : ℕ → ℕ → Bool
is_in mask w = eqb (tree_bit mask w) 1

-- ---- nodes: "node n is bit n − 1"

abbrev pub named : ℕ → ℕ → ℕ
named t n = tree_bit t (n - 1)

abbrev pub pointed : ℕ → ℕ → ℕ → ℕ
pointed t n h = with_bit t (n - 1) h

-- ---- the choice

-- one of `width` ways from `first` is a candidate
abbrev pub some_from : (ℕ → Bool) → ℕ → ℕ → Bool
some_from p first width = some width (λ w. p (first + w))

-- "go to the half that the bit names if it has a candidate, else to the other": below node n, in halves of 2^k ways
unfoldable pub goes : (ℕ → Bool) → ℕ → ℕ → ℕ → ℕ → ℕ
goes p t k n first = pick (some_from p (first + named t n * 2 ^ k) (2 ^ k)) (named t n) (1 - named t n)

-- "split halves until one way is left": "2n and 2n + 1 lie below n, the lower half first"
unfoldable pub descent : (ℕ → Bool) → ℕ → ℕ → ℕ → ℕ → ℕ
descent p t zero n first = first
descent p t (suc k) n first = descent p t k (2 * n + goes p t k n first) (first + goes p t k n first * 2 ^ k)

-- the choice among the candidates p of 2^k ways
abbrev pub tree_choice : (ℕ → Bool) → ℕ → ℕ → Option ℕ
tree_choice p t k = pick (some_from p 0 (2 ^ k)) (Some (descent p t k 1 0)) None

-- ---- after an access

-- the half of 2^k ways that way w lies in
abbrev pub side_of : ℕ → ℕ → ℕ → ℕ
side_of k first w = pick (ltb w (first + 2 ^ k)) 0 1

-- "each node on the path to its way points to the half not taken"
unfoldable pub turned : ℕ → ℕ → ℕ → ℕ → ℕ → ℕ
turned t zero n first w = t
turned t (suc k) n first w =
    turned (pointed t n (1 - side_of k first w)) k (2 * n + side_of k first w) (first + side_of k first w * 2 ^ k) w

abbrev pub touched_tree : ℕ → ℕ → ℕ → ℕ
touched_tree t k w = turned t k 1 0 w

-- ---- the number of ways

-- a power of two up to 16
abbrev pub power_to16 : ℕ → Bool
power_to16 n = any (eqb n) (1 ∷ 2 ∷ 4 ∷ 8 ∷ 16 ∷ [])

-- how often n ways are halved until one is left
abbrev pub halvings : ℕ → ℕ → ℕ
halvings zero n = 0
halvings (suc f) n = pick (leb n 1) 0 (suc (halvings f ((n + 1) / 2)))

unfoldable pub levels : ℕ → ℕ
levels n = halvings n n

-- "3 for tree bits set beyond the nodes in use or under another rule"
abbrev pub tree_fine : Bool → ℕ → ℕ → Bool
tree_fine is_tree ways t = pick is_tree (ltb t (2 ^ (ways - 1))) (eqb t 0)

-- ---- what the descent below a node asks

pub record Span (node first width : ℕ) : Type 0 where
  pub halved : ℕ
  pub wide : width ≡ 2 ^ halved
  pub top : 1 ≤ node
  pub nodes : node * width + width ≤ 32
  pub ways : first + width ≤ 16
