-- "Asked from 0 and refusing neither log, it says none exactly if both have the same bytes".
use Rattle.std.specs.Prelude.{None, Some, Ok}
use Rattle.words.proofs.General.{ℕ, zero, suc, ◌+◌, ◌-◌, ◌≤◌, ◌<◌, arith, ◌≡◌, refl, sym, ap, ◌∙◌, ◌↔◌, ⊎_elim, true, false, List, [], ◌∷◌, map, length, get_or, take, drop}
use Rattle.words.proofs.General.{length-take, length-drop, take-append-drop, drop_of_length-le, List·getD-eq-default, List·getD-map, drop-drop, le-ltb, lt-ltb, joined, flag}
use Rattle.words.proofs.General.{no-yes, lt_or_ge}
use Rattle.comparing.specs.Groups.{group_end, bytes_in, groups_from, groups, group_side}
use Rattle.comparing.specs.Checks.{fine, checked}
use Rattle.comparing.specs.Pairs.{same_pair, differs, first_of, pairs, first_difference, compared}
use Rattle.comparing.proofs.Walks.{group_end_lem}
use Rattle.comparing.proofs.Sides.{place_from, side_is, counted_out}
use Rattle.comparing.proofs.Bytes.{same_equal, same_self}

-- ---- the groups of a log, joined, are the log

module _ (s : List ℕ) where
  join_from : (d at : ℕ) → length s ≤ at + d → joined (map (bytes_in s) (groups_from d s at)) ≡ drop at s
  unfolding groups_from
  join_from zero at k = sym (drop_of_length-le s {i = at} (omega arith))
  join_from (suc d) at k =
      ⊎_elim
      (λ l.
      let w = group_end_lem s at l in
      let e = group_end s at in
      let z : at + (e - at) ≡ e = omega arith in
      let r : drop (e - at) (drop at s) ≡ drop e s = drop-drop (e - at) at s ∙ ap (λ n. drop n s) z in
      rw (lt-ltb at (length s) l, join_from d e (omega arith), ← r) (take-append-drop (e - at) (drop at s)))
      (λ l. rw (le-ltb at (length s) l) (sym (drop_of_length-le s {i = at} l)))
      (lt_or_ge at (length s))

  pub joined-groups : joined (map (bytes_in s) (groups s)) ≡ s
  unfolding groups
  joined-groups = join_from (length s) 0 (omega arith)

  side-bytes : (n : ℕ) → get_or (map (bytes_in s) (groups s)) n [] ≡ bytes_in s (group_side s n)
  unfolding group_side
  side-bytes n = List·getD-map (bytes_in s) (groups s) n (record { place = length s; size = 0 })

  out_bytes : (n : ℕ) → length (groups s) ≤ n → bytes_in s (group_side s n) ≡ []
  unfolding group_side
  out_bytes n h = rw (List·getD-eq-default (groups s) (record { place = length s; size = 0 }) {n = n} h)

join-same : (xs ys : List (List ℕ)) → ((n : ℕ) → get_or xs n [] ≡ get_or ys n []) → joined xs ≡ joined ys
join-same [] [] f = refl
join-same [] (y ∷ ys) f = rw (← (f 0)) (join-same [] ys (λ n. f (suc n)))
join-same (x ∷ xs) [] f = rw (f 0) (join-same xs [] (λ n. f (suc n)))
join-same (x ∷ xs) (y ∷ ys) f = rw (f 0, join-same xs ys (λ n. f (suc n)))

-- ---- no pair differs

module _ (a b : List ℕ) where
  none_of : (d n : ℕ) → first_of d a b n ≡ None → (k : ℕ) → n ≤ k → k < n + d → same_pair a b k ≡ true
  unfolding first_of
  none_of zero n e k h l = absurd (omega arith)
  none_of (suc d) n e k h l =
      ⊎_elim
      (λ q. ⊎_elim (λ w. none_of d (suc n) (rw q at e) k (omega arith) (omega arith)) (λ w. let z : k ≡ n = omega arith in rw z q) (lt_or_ge n k))
      (λ q. let r : Some (differs n (group_side a n) (group_side b n)) ≡ None = rw q at e in cc)
      (flag (same_pair a b n))

  none-same : first_difference a b 0 ≡ None → a ≡ b
  unfolding first_difference same_pair
  none-same e = sym (joined-groups a) ∙ join-same (map (bytes_in a) (groups a)) (map (bytes_in b) (groups b)) at ∙ joined-groups b
    where
      side : (n : ℕ) → bytes_in a (group_side a n) ≡ bytes_in b (group_side b n)
      side n =
          ⊎_elim
          (λ w. same_equal (bytes_in a (group_side a n)) (bytes_in b (group_side b n)) (none_of (pairs a b - 0) 0 e n (omega arith) (omega arith)))
          (λ w. out_bytes a n (omega arith) ∙ sym (out_bytes b n (omega arith)))
          (lt_or_ge n (pairs a b))

      at : (n : ℕ) → get_or (map (bytes_in a) (groups a)) n [] ≡ get_or (map (bytes_in b) (groups b)) n []
      at n = side-bytes a n ∙ side n ∙ sym (side-bytes b n)

self_none : (a : List ℕ) (d n : ℕ) → first_of d a a n ≡ None
unfolding first_of same_pair
self_none a zero n = refl
self_none a (suc d) n = rw (same_self (bytes_in a (group_side a n))) (self_none a d (suc n))

same_none : (a b : List ℕ) → a ≡ b → first_difference a b 0 ≡ None
unfolding first_difference
same_none a b e = rw (← e) (self_none a (pairs a a - 0) 0)

-- ---- a pair of which one side has run out differs: a group is a byte or more

module _ (a b : List ℕ) (n : ℕ) where
  group_bytes : n < length (groups a) → bytes_in a (group_side a n) ≡ [] → ⊥
  group_bytes h e =
      let p = place_from n a 0 in
      let l : p < length a = ⊎_elim (λ q. q) (λ q. absurd (let k = counted_out a n q in omega arith)) (lt_or_ge p (length a)) in
      let w = group_end_lem a p l in
      let z : take (group_end a p - p) (drop p a) ≡ [] = rw (side_is a n) at e in
      let y : length (take (group_end a p - p) (drop p a)) ≡ 0 = ap length z in
      omega (arith, length-take (group_end a p - p) (drop p a), length-drop p a)

  pub second_run_out : n < length (groups a) → length (groups b) ≤ n → same_pair a b n ≡ false
  unfolding same_pair
  second_run_out h k = no-yes (λ e. group_bytes h (same_equal (bytes_in a (group_side a n)) (bytes_in b (group_side b n)) e ∙ out_bytes b n k))

  pub first-run_out : n < length (groups a) → length (groups b) ≤ n → same_pair b a n ≡ false
  unfolding same_pair
  first-run_out h k = no-yes (λ e. group_bytes h (sym (same_equal (bytes_in b (group_side b n)) (bytes_in a (group_side a n)) e) ∙ out_bytes b n k))

-- ---- the theorem

module _ (a b : List ℕ) (p : checked a ≡ fine) (q : checked b ≡ fine) where
  answered : compared a b 0 ≡ Ok (first_difference a b 0)
  unfolding compared
  answered = rw (p, q)

  pub none_exactly : (compared a b 0 ≡ Ok None) ↔ (a ≡ b)
  none_exactly = (λ e. let f : Ok (first_difference a b 0) ≡ Ok None = sym answered ∙ e in none-same a b (cc), λ e. answered ∙ rw (same_none a b e))
