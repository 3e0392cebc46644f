-- Words for tests on lists and on the numbers below n: choice; all, any, count and keep of a list; every, some, count and the first
-- values below n. Nothing here is document 01's.
use Rattle.std.specs.Prelude.{ℕ, zero, suc, ◌+◌, Bool, true, false, not, ◌&&◌, ◌||◌, List, [], ◌∷◌, ◌++◌, leb}

module _ {ℓ} {A : Type ℓ} where
  -- x if the test holds, else y
  abbrev pub pick : Bool → A → A → A
  pick true x y = x
  pick false x y = y

module _ {ℓ} {A : Type ℓ} where
  abbrev pub all : (A → Bool) → List A → Bool
  all p [] = true
  all p (x ∷ xs) = p x && all p xs

  abbrev pub any : (A → Bool) → List A → Bool
  any p [] = false
  any p (x ∷ xs) = p x || any p xs

  -- how many pass
  abbrev pub count : (A → Bool) → List A → ℕ
  count p [] = 0
  count p (x ∷ xs) = pick (p x) (suc (count p xs)) (count p xs)

  -- those that pass
  abbrev pub keep : (A → Bool) → List A → List A
  keep p [] = []
  keep p (x ∷ xs) = pick (p x) (x ∷ keep p xs) (keep p xs)

module _ {A : Type 0} where
  -- f 0, f 1, .. f (n - 1)
  unfoldable pub table : ℕ → (ℕ → A) → List A
  table zero f = []
  table (suc n) f = f 0 ∷ table n (λ i. f (suc i))

-- ---- of numbers

abbrev pub within : ℕ → ℕ → ℕ → Bool
within low high n = leb low n && leb n high

-- ---- of the numbers below n

-- b, where a holds
abbrev pub imp : Bool → Bool → Bool
imp a b = not a || b

abbrev pub same : Bool → Bool → Bool
same true b = b
same false b = not b

abbrev pub one : Bool → ℕ
one true = 1
one false = 0

abbrev pub every : ℕ → (ℕ → Bool) → Bool
every zero p = true
every (suc n) p = every n p && p n

abbrev pub some : ℕ → (ℕ → Bool) → Bool
some zero p = false
some (suc n) p = some n p || p n

abbrev pub count_below : ℕ → (ℕ → Bool) → ℕ
count_below zero p = 0
count_below (suc n) p = count_below n p + one (p n)

-- ---- numbers in places

-- the first w numbers of l, with zeros where l has no more
unfoldable pub pad_to : ℕ → List ℕ → List ℕ
pad_to zero l = []
pad_to (suc w) [] = 0 ∷ pad_to w []
pad_to (suc w) (x ∷ l) = x ∷ pad_to w l

-- n places of w numbers each: those of the records, then zeros
unfoldable pub packed : {A : Type 0} → (A → List ℕ) → ℕ → ℕ → List A → List ℕ
packed g w zero xs = []
packed g w (suc n) [] = pad_to w [] ++ packed g w n []
packed g w (suc n) (x ∷ xs) = pad_to w (g x) ++ packed g w n xs

-- blocks one after the other
abbrev pub joined : List (List ℕ) → List ℕ
joined [] = []
joined (b ∷ bs) = b ++ joined bs
