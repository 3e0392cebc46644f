-- Laws of the tests on lists: membership, all, any, count, keep, and lists after `set`, `map`, `++`.
use Prim.Native.Nat.{ℕ, zero, suc, ◌+◌, ◌≤◌, ◌<◌}
use mathlib.Core.Path.{◌≡◌, refl, sym, ap, ◌∙◌}
use mathlib.Core.Logic.{◌⊎◌, inl, inr, ◌≢◌, ⊎_elim}
use mathlib.Core.Bool.{Bool, true, false, ◌&&◌, ◌||◌, false≢true, and-false, and_assoc}
use mathlib.Core.List.{List, [], ◌∷◌, ◌++◌, map}
use native.Mathlib.Omega.{arith}
use lib.ListN.{length, get_or, set, take, drop, length-set, length-map, replicate, get_or-map}
use lib.Seq.{get_or-set_same, get_or-set_other}
use lib.Dec.{eqb, ltb}
use borrow.Author.Tests.{eqb-true, eqb-false, ltb-true, ne_eqb}
use Rattle.words.specs.Words.{all, any, count, keep, table}
use Rattle.words.proofs.Flags.{and_1, and_2, and_i, or_cases, or_1, or_2, or_no_1, or_no_2, flag, clash, no-yes, by_flag}
use Rattle.words.proofs.Tabled.{list_table}

module _ {A : Type 0} where
  abbrev pub In : A → List A → Type 0
  In x [] = ⊥
  In x (y ∷ l) = (x ≡ y) ⊎ In x l

  module _ (p : A → Bool) where
    pub all_in : (l : List A) → all p l ≡ true → {x : A} → In x l → p x ≡ true
    all_in [] e m = absurd m
    all_in (y ∷ l) e (inl q) = rw q (and_1 (p y) (all p l) e)
    all_in (y ∷ l) e (inr m) = all_in l (and_2 (p y) (all p l) e) m

    pub in_all : (l : List A) → ((x : A) → In x l → p x ≡ true) → all p l ≡ true
    in_all [] f = refl
    in_all (y ∷ l) f = and_i (f y (inl refl)) (in_all l (λ x m. f x (inr m)))

    pub in-any : (l : List A) {x : A} → In x l → p x ≡ true → any p l ≡ true
    in-any [] m e = absurd m
    in-any (y ∷ l) (inl q) e = or_1 (p y) (any p l) (rw q at e)
    in-any (y ∷ l) (inr m) e = or_2 (p y) (any p l) (in-any l m e)

    pub any-in : (l : List A) → any p l ≡ true → (x : A) × In x l × (p x ≡ true)
    any-in [] e = absurd (false≢true e)
    any-in (y ∷ l) e = ⊎_elim (λ h. (y, inl refl, h)) (λ h. let (x, m, q) = any-in l h in (x, inr m, q)) (or_cases (p y) (any p l) e)

    pub in-keep : (l : List A) {x : A} → In x (keep p l) → In x l × (p x ≡ true)
    in-keep [] m = absurd m
    in-keep (y ∷ l) {x} m =
        let more : In x (keep p l) → In x (y ∷ l) × (p x ≡ true) = λ n. (inr (in-keep l n).0, (in-keep l n).1) in
        by_flag (λ (r : List A). In x r → In x (y ∷ l) × (p x ≡ true)) (p y) (y ∷ keep p l) (keep p l) (λ e. ⊎_elim (λ q. (inl q, rw q e)) more) (λ e. more) m

    pub keep-in : (l : List A) {x : A} → In x l → p x ≡ true → In x (keep p l)
    keep-in [] m e = absurd m
    keep-in (y ∷ l) {x} (inl q) e = let h : p y ≡ true = rw q at e in rw h (inl q)
    keep-in (y ∷ l) {x} (inr m) e = by_flag (In x) (p y) (y ∷ keep p l) (keep p l) (λ q. inr (keep-in l m e)) (λ q. keep-in l m e)

    pub keep-le : (l : List A) → length (keep p l) ≤ length l
    keep-le [] = omega arith
    keep-le (y ∷ l) = let h = keep-le l in ⊎_elim (λ q. rw q (omega arith)) (λ q. rw q (omega arith)) (flag (p y))

    pub keep-lt : (l : List A) {x : A} → In x l → p x ≡ false → length (keep p l) < length l
    keep-lt [] m e = absurd m
    keep-lt (y ∷ l) (inl q) e = let h : p y ≡ false = rw q at e in rw h (omega (arith, keep-le l))
    keep-lt (y ∷ l) (inr m) e = let h = keep-lt l m e in ⊎_elim (λ q. rw q (omega arith)) (λ q. rw q (omega arith)) (flag (p y))

    pub count-in : (l : List A) {x : A} → In x l → p x ≡ true → 0 < count p l
    count-in [] m e = absurd m
    count-in (y ∷ l) (inl q) e = let h : p y ≡ true = rw q at e in rw h (omega arith)
    count-in (y ∷ l) (inr m) e = let h = count-in l m e in ⊎_elim (λ q. rw q (omega arith)) (λ q. rw q (count-in l m e)) (flag (p y))

  pub not_twice : (p : A → Bool) (y : A) (l : List A) → count p (y ∷ l) ≡ 1 → {x : A} → In x l → p x ≡ true → p y ≡ false
  not_twice p y l c m e = no-yes (λ q. let z : suc (count p l) ≡ 1 = rw q at c in omega (arith, count-in p l m e))

  pub count_ext : (p q : A → Bool) (l : List A) → ((x : A) → In x l → p x ≡ q x) → count p l ≡ count q l
  count_ext p q [] f = refl
  count_ext p q (y ∷ l) f = rw (f y (inl refl), count_ext p q l (λ x m. f x (inr m)))

  pub any_ext : (p q : A → Bool) (l : List A) → ((x : A) → In x l → p x ≡ q x) → any p l ≡ any q l
  any_ext p q [] f = refl
  any_ext p q (y ∷ l) f = rw (f y (inl refl), any_ext p q l (λ x m. f x (inr m)))

  pub count_keep : (p r : A → Bool) (l : List A) → ((x : A) → p x ≡ true → r x ≡ true) → count p (keep r l) ≡ count p l
  count_keep p r [] f = refl
  count_keep p r (y ∷ l) f =
      ⊎_elim (λ q. rw q (rw (count_keep p r l f))) (λ q. rw (no-yes (λ h. clash (f y h) q)) (rw q (count_keep p r l f))) (flag (r y))

  pub any_keep : (p r : A → Bool) (l : List A) → ((x : A) → p x ≡ true → r x ≡ true) → any p (keep r l) ≡ any p l
  any_keep p r [] f = refl
  any_keep p r (y ∷ l) f =
      ⊎_elim (λ q. rw q (rw (any_keep p r l f))) (λ q. rw (no-yes (λ h. clash (f y h) q)) (rw q (any_keep p r l f))) (flag (r y))

  -- what stands inside a list does not depend on what stands past it
  pub get_or-inside : (l : List A) (i : ℕ) (d e : A) → i < length l → get_or l i d ≡ get_or l i e
  get_or-inside [] i d e h = absurd (omega arith)
  get_or-inside (x ∷ l) zero d e h = refl
  get_or-inside (x ∷ l) (suc i) d e h = get_or-inside l i d e (omega arith)

  pub none_of : (l : List A) → length l ≡ 0 → l ≡ []
  none_of [] h = refl
  none_of (x ∷ l) h = absurd (omega arith)

  -- a list of four is its elements
  pub four_whole : (d : A) (xs : List A) → length xs ≡ 4 → get_or xs 0 d ∷ get_or xs 1 d ∷ get_or xs 2 d ∷ get_or xs 3 d ∷ [] ≡ xs
  unfolding table
  four_whole d xs e = sym (rw e at (list_table xs d))

  pub in_get_or : (l : List A) (i : ℕ) (d : A) → i < length l → In (get_or l i d) l
  in_get_or [] i d h = absurd (omega arith)
  in_get_or (x ∷ l) zero d h = inl refl
  in_get_or (x ∷ l) (suc i) d h = inr (in_get_or l i d (omega arith))

  pub in_index : (l : List A) (d x : A) → In x l → (i : ℕ) × (i < length l) × (get_or l i d ≡ x)
  in_index [] d x m = absurd m
  in_index (y ∷ l) d x (inl q) = (0, omega arith, sym q)
  in_index (y ∷ l) d x (inr m) = let (i, h, e) = in_index l d x m in (suc i, omega arith, e)

  pub in_take : (n : ℕ) (l : List A) (x : A) → In x (take n l) → In x l
  in_take zero l x m = absurd m
  in_take (suc n) [] x m = absurd m
  in_take (suc n) (y ∷ l) x (inl q) = inl q
  in_take (suc n) (y ∷ l) x (inr m) = inr (in_take n l x m)

  pub in_drop : (n : ℕ) (l : List A) (x : A) → In x (drop n l) → In x l
  in_drop zero l x m = m
  in_drop (suc n) [] x m = absurd m
  in_drop (suc n) (y ∷ l) x m = inr (in_drop n l x m)

  -- one place passes: as a count
  module _ (p : A → Bool) (d : A) where
    count_none : (l : List A) → ((j : ℕ) → j < length l → p (get_or l j d) ≡ true → ⊥) → count p l ≡ 0
    count_none [] f = refl
    count_none (x ∷ l) f = rw (no-yes (f 0 (omega arith))) (count_none l (λ j h. f (suc j) (omega arith)))

    pub count_index : (l : List A) → count p l ≡ 1 → (i j : ℕ) → i < length l → j < length l → p (get_or l i d) ≡ true → p (get_or l j d) ≡ true → i ≡ j
    count_index [] c i j h k e f = absurd (omega arith)
    count_index (x ∷ l) c zero zero h k e f = refl
    count_index (x ∷ l) c zero (suc j) h k e f = clash e (not_twice p x l c (in_get_or l j d (omega arith)) f)
    count_index (x ∷ l) c (suc i) zero h k e f = clash f (not_twice p x l c (in_get_or l i d (omega arith)) e)
    count_index (x ∷ l) c (suc i) (suc j) h k e f =
        ap suc (count_index l (rw (not_twice p x l c (in_get_or l i d (omega arith)) e) at c) i j (omega arith) (omega arith) e f)

    pub index-count : (l : List A) (i : ℕ) → i < length l → p (get_or l i d) ≡ true → ((j : ℕ) → j < length l → p (get_or l j d) ≡ true → j ≡ i) → count p l ≡ 1
    index-count [] i h e f = absurd (omega arith)
    index-count (x ∷ l) zero h e f = rw e (ap suc (count_none l (λ j k q. let z : suc j ≡ 0 = f (suc j) (omega arith) q in omega arith)))
    index-count (x ∷ l) (suc i) h e f =
        let x-no : p x ≡ false = no-yes (λ q. let z : 0 ≡ suc i = f 0 (omega arith) q in omega arith) in
        rw x-no (index-count l i (omega arith) e (λ j k q. let z : suc j ≡ suc i = f (suc j) (omega arith) q in omega arith))

  -- where one passes, those that pass are one
  pub count_one : (p : A → Bool) (l : List A) → count p l ≡ 1 → {x y : A} → In x l → p x ≡ true → In y l → p y ≡ true → x ≡ y
  count_one p l c {x} {y} m e n f =
      let (i, h, q) = in_index l x x m in
      let (j, k, r) = in_index l x y n in
      sym q ∙ ap (λ (i : ℕ). get_or l i x) (count_index p x l c i j h k (rw q e) (rw r f)) ∙ r

  pub count_append : (p : A → Bool) (l m : List A) → count p (l ++ m) ≡ count p l + count p m
  count_append p [] m = omega arith
  count_append p (x ∷ l) m = let h = count_append p l m in ⊎_elim (λ q. rw q (omega arith)) (λ q. rw q (omega arith)) (flag (p x))

  pub any_append : (p : A → Bool) (l m : List A) → any p (l ++ m) ≡ (any p l || any p m)
  any_append p [] m = refl
  any_append p (x ∷ l) m = ⊎_elim (λ q. rw q) (λ q. rw q (any_append p l m)) (flag (p x))

  pub all_append : (p : A → Bool) (l m : List A) → all p (l ++ m) ≡ (all p l && all p m)
  all_append p [] m = refl
  all_append p (x ∷ l) m = rw (all_append p l m) (sym (and_assoc (p x) (all p l) (all p m)))

  pub in_append : (l m : List A) (x : A) → In x (l ++ m) → In x l ⊎ In x m
  in_append [] m x n = inr n
  in_append (y ∷ l) m x (inl q) = inl (inl q)
  in_append (y ∷ l) m x (inr n) = ⊎_elim (λ a. inl (inr a)) (λ b. inr b) (in_append l m x n)

  pub none_count : (p : A → Bool) (l : List A) → any p l ≡ false → count p l ≡ 0
  none_count p [] e = refl
  none_count p (x ∷ l) e = rw (or_no_1 (p x) (any p l) e) (none_count p l (or_no_2 (p x) (any p l) e))

  -- a list with one place changed, place by place
  pub each : (P : ℕ → A → Type 0) (l : List A) (d : A) (n : ℕ) (v : A) → P n v → ((j : ℕ) → j < length l → j ≢ n → P j (get_or l j d))
      → (j : ℕ) → j < length (set l n v) → P j (get_or (set l n v) j d)
  each P l d n v a f j h =
      let k : j < length l = rw length-set at h in
      ⊎_elim (λ e. let q : j ≡ n = eqb-true j n e in rw (q, get_or-set_same l n v d (rw q at k)) a)
      (λ e. rw (get_or-set_other l n j v d (eqb-false j n e)) (f j k (eqb-false j n e))) (flag (eqb j n))

  -- neither the old one nor the new one passes
  pub any_set-same : (p : A → Bool) (d : A) (l : List A) (n : ℕ) (v : A) → p v ≡ false → p (get_or l n d) ≡ false → any p (set l n v) ≡ any p l
  any_set-same p d [] n v e f = refl
  any_set-same p d (x ∷ l) zero v e f = rw (e, f)
  any_set-same p d (x ∷ l) (suc n) v e f = rw (any_set-same p d l n v e f)

  -- the new one passes if the old one did
  pub any_set : (p : A → Bool) (l : List A) (n : ℕ) (v d : A) → (p (get_or l n d) ≡ true → p v ≡ true) → any p l ≡ true → any p (set l n v) ≡ true
  any_set p [] n v d f e = e
  any_set p (x ∷ l) zero v d f e = ⊎_elim (λ h. or_1 (p v) (any p l) (f h)) (λ h. or_2 (p v) (any p l) h) (or_cases (p x) (any p l) e)
  any_set p (x ∷ l) (suc n) v d f e = ⊎_elim (λ h. or_1 (p x) _ h) (λ h. or_2 (p x) _ (any_set p l n v d f h)) (or_cases (p x) (any p l) e)

  pub in_set-same : (l : List A) (n : ℕ) (v : A) → n < length l → In v (set l n v)
  in_set-same [] n v h = absurd (omega arith)
  in_set-same (x ∷ l) zero v h = inl refl
  in_set-same (x ∷ l) (suc n) v h = inr (in_set-same l n v (omega arith))

  pub in_set_other : (l : List A) (n : ℕ) (v d : A) (j : ℕ) → j < length l → j ≢ n → In (get_or l j d) (set l n v)
  in_set_other l n v d j h k = rw (get_or-set_other l n j v d k) at (in_get_or (set l n v) j d (rw length-set h))

  pub in_replicate : (n : ℕ) (a x : A) → In x (replicate n a) → x ≡ a
  in_replicate zero a x m = absurd m
  in_replicate (suc n) a x (inl q) = q
  in_replicate (suc n) a x (inr m) = in_replicate n a x m

  pub get_or-same : (n i : ℕ) (a : A) → get_or (replicate n a) i a ≡ a
  get_or-same zero i a = refl
  get_or-same (suc n) zero a = refl
  get_or-same (suc n) (suc i) a = get_or-same n i a

  -- all after a change of one place
  pub all_set : (p : A → Bool) (l : List A) (i : ℕ) (v : A) → all p l ≡ true → p v ≡ true → all p (set l i v) ≡ true
  all_set p [] i v e h = refl
  all_set p (x ∷ l) zero v e h = and_i h (and_2 (p x) (all p l) e)
  all_set p (x ∷ l) (suc i) v e h = and_i (and_1 (p x) (all p l) e) (all_set p l i v (and_2 (p x) (all p l) e) h)

  pub set-some : (p : A → Bool) (l : List A) (i : ℕ) (v : A) → i < length l → p v ≡ false → all p (set l i v) ≡ false
  set-some p [] i v h e = absurd (omega arith)
  set-some p (x ∷ l) zero v h e = rw e
  set-some p (x ∷ l) (suc i) v h e = rw (set-some p l i v (omega arith) e) (and-false (p x))

-- numbers that are all below n
pub none-past : {A : Type 0} (f : A → ℕ) (n k : ℕ) (xs : List A) → all (λ x. ltb (f x) n) xs ≡ true → n ≤ k → any (λ x. eqb k (f x)) xs ≡ false
none-past f n k [] e h = refl
none-past f n k (x ∷ xs) e h =
    let p : f x < n = ltb-true (f x) n (and_1 (ltb (f x) n) (all (λ y. ltb (f y) n) xs) e) in
    rw (ne_eqb k (f x) (λ q. omega arith)) (none-past f n k xs (and_2 (ltb (f x) n) (all (λ y. ltb (f y) n) xs) e) h)

module _ {A B : Type 0} (f : A → B) where
  pub get_or-map_in : (l : List A) (d : A) (e : B) (i : ℕ) → i < length l → get_or (map f l) i e ≡ f (get_or l i d)
  get_or-map_in l d e i h = get_or-inside (map f l) i e (f d) (rw length-map h) ∙ get_or-map f l i d

  pub map_in : (l : List A) (x : A) → In x l → In (f x) (map f l)
  map_in [] x m = absurd m
  map_in (y ∷ l) x (inl q) = inl (ap f q)
  map_in (y ∷ l) x (inr m) = inr (map_in l x m)

  pub in_map : (l : List A) {y : B} → In y (map f l) → (x : A) × In x l × (y ≡ f x)
  in_map [] m = absurd m
  in_map (x ∷ l) (inl q) = (x, inl refl, q)
  in_map (x ∷ l) (inr m) = let (z, n, e) = in_map l m in (z, inr n, e)

  pub map-set : (l : List A) (i : ℕ) (v : A) → map f (set l i v) ≡ set (map f l) i (f v)
  map-set [] i v = refl
  map-set (x ∷ l) zero v = refl
  map-set (x ∷ l) (suc i) v = ap (λ (r : List B). f x ∷ r) (map-set l i v)

  pub any_map : (p : B → Bool) (l : List A) → any p (map f l) ≡ any (λ x. p (f x)) l
  any_map p [] = refl
  any_map p (x ∷ l) = rw (any_map p l)

  pub all_map : (p : B → Bool) (l : List A) → all p (map f l) ≡ all (λ x. p (f x)) l
  all_map p [] = refl
  all_map p (x ∷ l) = rw (all_map p l)

  pub count_map : (p : B → Bool) (l : List A) → count p (map f l) ≡ count (λ x. p (f x)) l
  count_map p [] = refl
  count_map p (x ∷ l) = rw (count_map p l)
