-- The first pair that differs, step by step.
use Rattle.std.specs.Prelude.{None, Some}
use Rattle.words.proofs.General.{ℕ, zero, suc, ◌+◌, ◌-◌, ◌%◌, ◌^◌, max, ◌≤◌, ◌<◌, add-one, arith, ◌≡◌, refl, sym, ap, ◌∙◌, ⊎_elim, Bool, true, false, ◌||◌, List, length, take}
use Rattle.words.proofs.General.{drop, ltb, le-ltb, lt-ltb, ltb-true, ltb-false, pick, flag, by_flag, or_cases, or_no_1, or_no_2}
use Rattle.comparing.specs.declared.Found.{Found}
use Rattle.comparing.specs.Groups.{bytes_in, group_end, group_side}
use Rattle.comparing.specs.declared.Cursor.{Cursor}
use Rattle.comparing.specs.Pairs.{same_bytes, same_pair, differs, first_of, pairs, first_difference, cursor_behind, group_at, found_from, found_pair, CursorStands, GoesOn}
use Rattle.comparing.proofs.Walks.{group_end_lem}
use Rattle.comparing.proofs.Sides.{group_on, side-to, next-begins, counted-in, counted-over}

module _ (a b : List ℕ) where
  difference_more : (n : ℕ) → n < pairs a b → first_difference a b n ≡ pick (same_pair a b n) (first_difference a b (n + 1)) (Some (differs n (group_side a n) (group_side b n)))
  unfolding first_difference first_of
  difference_more n h = let k : pairs a b - n ≡ suc (pairs a b - suc n) = omega arith in rw (k, add-one n)

  -- whether a byte is left in one of the logs
  unfoldable pub some_left : ℕ → ℕ → Bool
  some_left x y = ltb x (length a) || ltb y (length b)

  -- by the tests that the code makes
  pub in_first : (x y : ℕ) → x < length a → some_left x y ≡ true
  unfolding some_left
  in_first x y h = rw (lt-ltb x (length a) h)

  pub in_second : (x y : ℕ) → y < length b → some_left x y ≡ true
  unfolding some_left
  in_second x y h = rw (lt-ltb y (length b) h) (⊎_elim (λ q. rw q) (λ q. rw q) (flag (ltb x (length a))))

  pub none_in : (x y : ℕ) → length a ≤ x → length b ≤ y → some_left x y ≡ false
  unfolding some_left
  none_in x y h k = rw (le-ltb x (length a) h, le-ltb y (length b) k)

  pub left_less : (x y : ℕ) {e f : ℕ} → some_left x y ≡ true → e ≡ group_end a x → f ≡ group_end b y → (length a - e) + (length b - f) < (length a - x) + (length b - y)
  unfolding some_left
  left_less x y {e} {f} t p q =
      ⊎_elim
      (λ h. let l = ltb-true x (length a) h in let w = group_end_lem a x l in let v = group_on b y refl in omega arith)
      (λ h. let l = ltb-true y (length b) h in let w = group_end_lem b y l in let v = group_on a x refl in omega arith)
      (or_cases (ltb x (length a)) (ltb y (length b)) t)

  -- the loop over the pairs: x and y are where the groups of number n begin, and the answer is the same from there
  record PairsSame (m n x y : ℕ) : Type 0 where
    in_a : x ≡ (group_side a n).place
    in_b : y ≡ (group_side b n).place
    same : first_difference a b m ≡ first_difference a b n
    from : m ≤ n
    to : n ≤ max m (pairs a b)

  module _ {m n x y : ℕ} (g : PairsSame m n x y) where
    going-none : some_left x y ≡ false → GoesOn a b m (record { difference = None; next = record { number = n; first = x; second = y } })
    unfolding some_left first_difference first_of
    going-none t =
        let h = counted-over a n g.in_a (ltb-false x (length a) (or_no_1 (ltb x (length a)) (ltb y (length b)) t)) in
        let k = counted-over b n g.in_b (ltb-false y (length b) (or_no_2 (ltb x (length a)) (ltb y (length b)) t)) in
        let z : pairs a b - n ≡ 0 = omega arith in
        record { says = sym (g.same ∙ rw z); stands = record { in_a = g.in_a; in_b = g.in_b }; behind = omega arith }

    the-pair : same_bytes (bytes_in a (group_at a x)) (bytes_in b (group_at b y)) ≡ same_pair a b n
    unfolding same_pair
    the-pair = rw (side-to a n g.in_a, side-to b n g.in_b)

    module _ (t : some_left x y ≡ true) (fa : length a < 2 ^ 64) (fb : length b < 2 ^ 64) where
      -- there is a pair of this number, and the number is below a log's length
      going-left : (n < pairs a b) × (n < max (length a) (length b))
      unfolding some_left
      going-left =
          ⊎_elim
          (λ h. let w = counted-in a n g.in_a (ltb-true x (length a) h) in omega arith)
          (λ h. let w = counted-in b n g.in_b (ltb-true y (length b) h) in omega arith)
          (or_cases (ltb x (length a)) (ltb y (length b)) t)

      -- the code's sum wraps, and here it does not come to that
      one_more : (n + 1) % 2 ^ 64 ≡ n + 1
      one_more = let h = going-left in omega arith

      going_more : same_bytes (bytes_in a (group_at a x)) (bytes_in b (group_at b y)) ≡ true → PairsSame m ((n + 1) % 2 ^ 64) (group_end a x) (group_end b y)
      going_more d =
          let h = going-left in
          rw one_more (record {
            in_a = next-begins a n g.in_a;
            in_b = next-begins b n g.in_b;
            same = g.same ∙ difference_more n h.0 ∙ rw (sym the-pair ∙ d);
            from = omega (arith, g.from);
            to = omega arith;
          })

      going-found : same_bytes (bytes_in a (group_at a x)) (bytes_in b (group_at b y)) ≡ false
          → GoesOn a b m (record { difference = Some (differs n (group_at a x) (group_at b y)); next = record { number = (n + 1) % 2 ^ 64; first = group_end a x; second = group_end b y } })
      going-found d =
          record {
            says = sym (g.same ∙ difference_more n going-left.0 ∙ rw (sym the-pair ∙ d, side-to a n g.in_a, side-to b n g.in_b));
            stands = record { in_a = rw one_more (next-begins a n g.in_a); in_b = rw one_more (next-begins b n g.in_b) };
            behind = one_more;
          }

-- ---- from a cursor on, wherever it stands

module _ (a b : List ℕ) where
  -- what lies behind a cursor
  unfoldable pub bytes_left : Cursor → ℕ
  bytes_left c = (length a - c.first) + (length b - c.second)

  behind_less : (c : Cursor) → some_left a b c.first c.second ≡ true → bytes_left (cursor_behind a b c) < bytes_left c
  unfolding bytes_left
  behind_less c t = left_less a b c.first c.second t refl refl

  -- the cursor that the code makes
  pub cursor_less : (c : Cursor) (k : ℕ) {e f : ℕ} → some_left a b c.first c.second ≡ true → e ≡ group_end a c.first → f ≡ group_end b c.second
      → bytes_left (record { number = k; first = e; second = f }) < bytes_left c
  unfolding bytes_left
  cursor_less c k t p q = left_less a b c.first c.second t p q

  none_ahead : (c : Cursor) → bytes_left c ≤ 0 → some_left a b c.first c.second ≡ false
  unfolding some_left bytes_left
  none_ahead c h = rw (le-ltb c.first (length a) (omega arith), le-ltb c.second (length b) (omega arith))

  found_steps : (d e : ℕ) (c : Cursor) → bytes_left c ≤ d → bytes_left c ≤ e → found_from d a b c ≡ found_from e a b c
  unfolding found_from some_left
  found_steps zero zero c h k = refl
  found_steps zero (suc e) c h k = rw (none_ahead c h)
  found_steps (suc d) zero c h k = rw (none_ahead c k)
  found_steps (suc d) (suc e) c h k =
      ⊎_elim
      (λ q. let l = behind_less c q in rw (q, found_steps d e (cursor_behind a b c) (omega arith) (omega arith)))
      (λ q. rw q)
      (flag (some_left a b c.first c.second))

  -- the loop over the pairs: what is found from where it stands
  abbrev pub FindsPair : Cursor → Cursor → Type 0
  FindsPair o c = found_pair a b o ≡ found_from (bytes_left c) a b c

  pub finds_start : (o : Cursor) → FindsPair o o
  unfolding found_pair bytes_left
  finds_start o = found_steps (length a + length b) (bytes_left o) o (omega arith) (omega arith)

  module _ (o c : Cursor) (g : FindsPair o c) where
    finds-step : found_pair a b o ≡ found_from (suc (bytes_left c)) a b c
    finds-step = g ∙ found_steps (bytes_left c) (suc (bytes_left c)) c (omega arith) (omega arith)

    pub finds-none : some_left a b c.first c.second ≡ false → record { difference = None; next = c } ≡ found_pair a b o
    unfolding found_from some_left
    finds-none t = sym (finds-step ∙ rw t)

  module _ (o : Cursor) (n x y : ℕ) (g : FindsPair o (record { number = n; first = x; second = y })) (t : some_left a b x y ≡ true)
      {e f : ℕ} (p : e ≡ group_end a x) (q : f ≡ group_end b y) {k : ℕ} (w : k ≡ (n + 1) % 2 ^ 64)
      {i j : List ℕ} (r : i ≡ take (e - x) (drop x a)) (s : j ≡ take (f - y) (drop y b)) {u : Bool} (v : u ≡ same_bytes i j) where
    there : same_bytes (bytes_in a (group_at a x)) (bytes_in b (group_at b y)) ≡ u
    there = rw (← p, ← q, ← r, ← s) (sym v)

    pub finds-here : u ≡ false → record { difference = Some (differs n (record { place = x; size = e - x }) (record { place = y; size = f - y })); next = record { number = k; first = e; second = f } } ≡ found_pair a b o
    unfolding found_from some_left
    finds-here z = sym (finds-step o (record { number = n; first = x; second = y }) g ∙ rw (t, there ∙ z, p, q, w))

    pub finds-more : u ≡ true → FindsPair o (record { number = k; first = e; second = f })
    unfolding found_from some_left
    finds-more z =
        let c : Cursor = record { number = n; first = x; second = y } in
        let l = behind_less c t in
        let d : record { number = k; first = e; second = f } ≡ cursor_behind a b c = rw (p, q, w) in
        finds-step o c g ∙ rw (t, there ∙ z, d) (found_steps (bytes_left c) (bytes_left (cursor_behind a b c)) (cursor_behind a b c) (omega arith) (omega arith))

  -- ---- where it stands, that is the answer to its number

  module _ (fa : length a < 2 ^ 64) (fb : length b < 2 ^ 64) where
    goes-from : (d m : ℕ) (c : Cursor) → bytes_left c ≤ d → PairsSame a b m c.number c.first c.second → GoesOn a b m (found_from d a b c)
    unfolding found_from some_left
    goes-from zero m c h g = going-none a b g (none_ahead c h)
    goes-from (suc d) m c h g =
        by_flag (GoesOn a b m) (some_left a b c.first c.second) _ _
        (λ q.
        by_flag (GoesOn a b m) (same_bytes (bytes_in a (group_at a c.first)) (bytes_in b (group_at b c.second))) _ _
        (λ r. let l = behind_less c q in goes-from d m (cursor_behind a b c) (omega arith) (going_more a b g q fa fb r))
        (λ r. going-found a b g q fa fb r))
        (λ q. going-none a b g q)

    pub found-goes-on : (c : Cursor) → CursorStands a b c → GoesOn a b c.number (found_pair a b c)
    unfolding found_pair bytes_left
    found-goes-on c s = goes-from (length a + length b) c.number c (omega arith) (record { in_a = s.in_a; in_b = s.in_b; same = refl; from = omega arith; to = omega arith })

-- ---- what is answered, where both checks told nothing

pub found_answered : (a b : List ℕ) (from : ℕ) → length a < 2 ^ 64 → length b < 2 ^ 64 → {x y : ℕ} → x ≡ (group_side a from).place → y ≡ (group_side b from).place
    → {z : Found} → z ≡ found_pair a b (record { number = from; first = x; second = y }) → z.difference ≡ first_difference a b from
found_answered a b from fa fb i j k = ap (λ t. t.difference) k ∙ (found-goes-on a b fa fb _ (record { in_a = i; in_b = j })).says
