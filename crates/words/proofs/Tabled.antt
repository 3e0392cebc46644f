-- Laws of `table`, the list of a function's first values: its length and elements, tables side by side, and tests over a list as tests
-- on the numbers below its length.
use mathlib.Core.Path.{◌≡◌, refl, sym, ap, ◌∙◌}
use mathlib.Core.Bool.{Bool, true, false, ◌&&◌, ◌||◌, and-true, or-false, and_assoc, or_assoc}
use mathlib.Core.List.{List, [], ◌∷◌, ◌++◌}
use Prim.Native.Nat.{ℕ, zero, suc, ◌+◌, ◌<◌, ◌≤◌}
use native.Mathlib.Nat.{not-suc-le-zero, le_of_suc-le-suc, zero-add, suc-add}
use native.Mathlib.Omega.{arith}
use lib.ListN.{length, get_or, take, drop, length-take, length-drop}
use lib.Seq.{ext_get_or, get_or-take, get_or-drop}
use Rattle.words.specs.Words.{pick, all, any, count, table, every, some, count_below, one}

-- ---- the first of the numbers below n apart from the others

every_first : (n : ℕ) (p : ℕ → Bool) → every (suc n) p ≡ (p 0 && every n (λ i. p (suc i)))
every_first zero p = sym (and-true (p 0))
every_first (suc n) p = ap (λ (b : Bool). b && p (suc n)) (every_first n p) ∙ and_assoc (p 0) (every n (λ i. p (suc i))) (p (suc n))

some_first : (n : ℕ) (p : ℕ → Bool) → some (suc n) p ≡ (p 0 || some n (λ i. p (suc i)))
some_first zero p = sym (or-false (p 0))
some_first (suc n) p = ap (λ (b : Bool). b || p (suc n)) (some_first n p) ∙ or_assoc (p 0) (some n (λ i. p (suc i))) (p (suc n))

count_first : (n : ℕ) (p : ℕ → Bool) → count_below (suc n) p ≡ one (p 0) + count_below n (λ i. p (suc i))
count_first zero p = omega arith
count_first (suc n) p = omega (arith, count_first n p)

pub pick_one : (b : Bool) (n : ℕ) → pick b (suc n) n ≡ one b + n
pick_one true n = omega arith
pick_one false n = omega arith

-- ---- tables

module _ {A : Type 0} where
  pub length_table : (n : ℕ) (f : ℕ → A) → length (table n f) ≡ n
  unfolding table
  length_table zero f = refl
  length_table (suc n) f = ap suc (length_table n (λ i. f (suc i)))

  pub get_or_table : (n : ℕ) (f : ℕ → A) (i : ℕ) (d : A) → i < n → get_or (table n f) i d ≡ f i
  unfolding table
  get_or_table zero f i d h = absurd (not-suc-le-zero h)
  get_or_table (suc n) f zero d h = refl
  get_or_table (suc n) f (suc i) d h = get_or_table n (λ i. f (suc i)) i d (le_of_suc-le-suc h)

  pub table_same : (n : ℕ) (f g : ℕ → A) → ((i : ℕ) → i < n → f i ≡ g i) → table n f ≡ table n g
  unfolding table
  table_same zero f g h = refl
  table_same (suc n) f g h = rw (h 0 (omega arith), table_same n (λ i. f (suc i)) (λ i. g (suc i)) (λ i k. h (suc i) (omega arith)))

  pub list_table : (xs : List A) (d : A) → xs ≡ table (length xs) (λ i. get_or xs i d)
  unfolding table
  list_table [] d = refl
  list_table (x ∷ xs) d = ap (λ (l : List A). x ∷ l) (list_table xs d)

  -- a table with a list's elements is that list
  pub table_list : (n : ℕ) (f : ℕ → A) (xs : List A) (d : A) → length xs ≡ n → ((i : ℕ) → i < n → f i ≡ get_or xs i d) → table n f ≡ xs
  table_list n f xs d e h = table_same n f (λ i. get_or xs i d) h ∙ ap (λ (k : ℕ). table k (λ i. get_or xs i d)) (sym e) ∙ sym (list_table xs d)

  pub table_append : (a b : ℕ) (f : ℕ → A) → table (a + b) f ≡ table a f ++ table b (λ i. f (a + i))
  unfolding table
  table_append zero b f = rw zero-add (table_same b f (λ i. f (0 + i)) (λ i h. ap f (sym (zero-add i))))
  table_append (suc a) b f =
      rw suc-add (ap (λ (l : List A). f 0 ∷ l) (table_append a b (λ i. f (suc i))
      ∙ ap (λ (l : List A). table a (λ i. f (suc i)) ++ l) (table_same b (λ i. f (suc (a + i))) (λ i. f (suc a + i)) (λ i h. ap f (sym (suc-add a i))))))

  -- one more at the end
  pub table_snoc : (n : ℕ) (f : ℕ → A) → table (suc n) f ≡ table n f ++ (f n ∷ [])
  unfolding table
  table_snoc zero f = refl
  table_snoc (suc n) f = ap (λ (l : List A). f 0 ∷ l) (table_snoc n (λ i. f (suc i)))

  -- m places from place b
  pub part_table : (n : ℕ) (f : ℕ → A) (b m : ℕ) (d : A) → b + m ≤ n → take m (drop b (table n f)) ≡ table m (λ w. f (b + w))
  part_table n f b m d h =
      let e : length (take m (drop b (table n f))) ≡ m = simp (length-take, length-drop, length_table) (omega arith) in
      ext_get_or d _ _ (e ∙ sym (length_table m (λ w. f (b + w))))
      (λ i k. let k2 : i < m = omega arith in
      get_or-take m (drop b (table n f)) i d k2 ∙ get_or-drop b (table n f) i d ∙ get_or_table n f (b + i) d (omega arith) ∙ sym (get_or_table m (λ w. f (b + w)) i d k2))

  -- ---- tests

  pub all_table : (p : A → Bool) (n : ℕ) (f : ℕ → A) → all p (table n f) ≡ every n (λ i. p (f i))
  unfolding table
  all_table p zero f = refl
  all_table p (suc n) f = ap (λ (b : Bool). p (f 0) && b) (all_table p n (λ i. f (suc i))) ∙ sym (every_first n (λ i. p (f i)))

  pub any_table : (p : A → Bool) (n : ℕ) (f : ℕ → A) → any p (table n f) ≡ some n (λ i. p (f i))
  unfolding table
  any_table p zero f = refl
  any_table p (suc n) f = ap (λ (b : Bool). p (f 0) || b) (any_table p n (λ i. f (suc i))) ∙ sym (some_first n (λ i. p (f i)))

  pub count_table : (p : A → Bool) (n : ℕ) (f : ℕ → A) → count p (table n f) ≡ count_below n (λ i. p (f i))
  unfolding table
  count_table p zero f = refl
  count_table p (suc n) f =
      pick_one (p (f 0)) (count p (table n (λ i. f (suc i))))
      ∙ ap (λ (k : ℕ). one (p (f 0)) + k) (count_table p n (λ i. f (suc i)))
      ∙ sym (count_first n (λ i. p (f i)))

  pub all_get : (p : A → Bool) (xs : List A) (d : A) → all p xs ≡ every (length xs) (λ i. p (get_or xs i d))
  all_get p xs d = ap (all p) (list_table xs d) ∙ all_table p (length xs) (λ i. get_or xs i d)

  pub any_get : (p : A → Bool) (xs : List A) (d : A) → any p xs ≡ some (length xs) (λ i. p (get_or xs i d))
  any_get p xs d = ap (any p) (list_table xs d) ∙ any_table p (length xs) (λ i. get_or xs i d)

  pub count_get : (p : A → Bool) (xs : List A) (d : A) → count p xs ≡ count_below (length xs) (λ i. p (get_or xs i d))
  count_get p xs d = ap (count p) (list_table xs d) ∙ count_table p (length xs) (λ i. get_or xs i d)
