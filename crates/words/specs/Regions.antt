-- Words for a region of a lent slice, which the inner contracts speak of. Nothing here is document 01's.
use Rattle.std.specs.Prelude.{ℕ, zero, suc, ◌+◌, Bool, List, [], ◌∷◌, ◌++◌, length, take, drop, replicate, leb}

-- whether l has room for n numbers from index `at`
abbrev pub room : List ℕ → ℕ → ℕ → Bool
room l at n = leb (at + n) (length l)

-- the n numbers of l from index `at`
unfoldable pub region : List ℕ → ℕ → ℕ → List ℕ
region l at n = take n (drop at l)

-- l with r in the place of as many numbers from index `at`
unfoldable pub put : List ℕ → ℕ → List ℕ → List ℕ
put l at r = take at l ++ r ++ drop (at + length r) l

-- r with its first `by` numbers gone, the others closed up, and zeros at the end
unfoldable pub closed_up : ℕ → List ℕ → List ℕ
closed_up by r = drop by r ++ replicate by 0

abbrev pub closed : List ℕ → ℕ → ℕ → ℕ → List ℕ
closed l at n by = put l at (closed_up by (region l at n))

-- how much stands before block j
abbrev pub offset_in : List (List ℕ) → ℕ → ℕ
offset_in bs zero = 0
offset_in [] (suc j) = 0
offset_in (b ∷ bs) (suc j) = length b + offset_in bs j

-- a list without its element e
abbrev pub dropped : {A : Type 0} → ℕ → List A → List A
dropped e [] = []
dropped zero (x ∷ xs) = xs
dropped (suc e) (x ∷ xs) = x ∷ dropped e xs
