-- Two logs passed step by step, however they come: where the steps come to the end, they listed exactly the pairs that differ.
use Rattle.std.specs.Prelude.{Option, None, Some}
use Rattle.words.proofs.General.{ℕ, suc, ◌+◌, ◌-◌, ◌%◌, ◌^◌, ◌≤◌, ◌<◌, pos_of_ne-zero, add-one, arith, ◌≡◌, refl, sym, ap, ◌∙◌, ⊎_elim, Bool, true, false, not, ◌&&◌, and-true}
use Rattle.words.proofs.General.{and_assoc, List, [], ◌∷◌, ◌++◌, append-nil, append_assoc, length, take, drop, length-append, length-drop, drop-drop, take-append-le, eqb, eqb-true}
use Rattle.words.proofs.General.{eqb-false, eq-eqb, ne_eqb, pick, flag, by_flag, and_1, and_2}
use Rattle.comparing.specs.declared.Difference.{Difference}
use Rattle.comparing.specs.declared.Side.{Side}
use Rattle.comparing.specs.declared.Walk.{Walk}
use Rattle.comparing.specs.declared.Log.TheVariants as log
use Rattle.comparing.specs.declared.Step.{Step}
use Rattle.comparing.specs.declared.Step.TheVariants as step
use Rattle.comparing.specs.Groups.{part_to, bytes_in, record_end, group_end, groups, group_side}
use Rattle.comparing.specs.Pairs.{same_bytes, same_pair, differs, pairs, listed, differences_from_pair}
use Rattle.comparing.specs.Steps.{side, walk_beginning, ahead, moved, side_behind, onward, pairs_differing, or_number, lowest_of, next_pair, untouched, pair_over, record_row, step_shown, begun_side, stepped, Front, pair_of, Walked, not_begun, by_row, by_same, by_differing, lowest_in, Listed}
use Rattle.comparing.proofs.Sides.{place_from, group_on, side_is, side-to, next-begins, counted-in, counted-over}
use Rattle.comparing.proofs.Rests.{group_rest, begun_after, Coming, coming, AheadShown, ahead_shown, same_split, group_drop}

front_bytes : {s a : List ℕ} {whole : Bool} (f : Front s a whole) (m : ℕ) → m ≤ length a → take m a ≡ take m s
front_bytes {s} {a} f m h = rw f.joins (sym (take-append-le m a f.behind h))

-- ---- one side: s is to come of the log A, behind what is passed of its group of number n

record SideAt (A s : List ℕ) (n : ℕ) (d : Side) : Type 0 where
  begins : d.place ≡ (group_side A n).place
  size : (group_side A n).size ≡ d.passed + group_rest (begun_side d) s
  here : drop (d.place + d.passed) A ≡ s
  within : d.place + d.passed ≤ length A

begun_after_lem : (x m : ℕ) → not (eqb (x + m) 0) ≡ begun_after (not (eqb x 0)) m
begun_after_lem x m =
    ⊎_elim
    (λ q. let z = eqb-true m 0 q in let e : x + m ≡ x = omega arith in rw (q, e))
    (λ q. let z = eqb-false m 0 q in rw (q, ne_eqb (x + m) 0 (λ e. z (omega arith))))
    (flag (eqb m 0))

module _ {A s : List ℕ} {n : ℕ} {d : Side} (i : SideAt A s n d) (fits : length A < 2 ^ 64) where
  to_come : length s ≡ length A - (d.place + d.passed)
  to_come = sym (ap length i.here) ∙ length-drop (d.place + d.passed) A

  module _ {m : ℕ} (c : Coming (begun_side d) s m) where
    no_wrap : (d.passed + m) % 2 ^ 64 ≡ d.passed + m
    no_wrap = let k = to_come in omega arith

    side-moved : SideAt A (drop m s) n (moved d m)
    side-moved =
        let k = to_come in
        let e : d.place + (d.passed + m) ≡ d.place + d.passed + m = omega arith in
        record {
          begins = i.begins;
          size = rw (no_wrap, begun_after_lem d.passed m) (omega arith);
          here = rw (no_wrap, e) (sym (drop-drop m (d.place + d.passed) A) ∙ ap (drop m) i.here);
          within = rw no_wrap (omega arith);
        }

  module _ (z : group_rest (begun_side d) s ≡ 0) where
    side-whole : group_side A n ≡ record { place = d.place; size = d.passed }
    side-whole = let e : (group_side A n).size ≡ d.passed = omega arith in rw (i.begins, ← e)

    group-here : group_end A d.place ≡ d.place + d.passed
    group-here = let e : (group_side A n).size ≡ group_end A d.place - d.place = ap (λ x. x.size) (side-to A n i.begins) in omega (arith, group_on A d.place refl, i.size)

    side-behind : SideAt A s (n + 1) (side_behind d)
    unfolding group_rest
    side-behind =
        let e : (d.place + d.passed) % 2 ^ 64 ≡ d.place + d.passed = omega arith in
        let p : d.place + d.passed ≡ (group_side A (n + 1)).place = sym group-here ∙ next-begins A n i.begins in
        let y : d.place + d.passed + 0 ≡ d.place + d.passed = omega arith in
        record {
          begins = e ∙ p;
          size = rw (side-to A (n + 1) p) (omega (arith, group_drop A (d.place + d.passed) i.within, ap (λ x. group_end x 0) i.here));
          here = rw (e, y) i.here;
          within = rw (e, y) i.within;
        }

    -- where some of it is passed, the log has a group of this number
    group-there : (d.passed ≡ 0 → ⊥) → (n < length (groups A)) × (n < length A)
    group-there h = let k = pos_of_ne-zero h in counted-in A n i.begins (omega arith)

  -- where nothing of it is passed and nothing comes, the log is over
  over_here : d.passed ≡ 0 → Coming (begun_side d) s 0 → length (groups A) ≤ n
  over_here e c = counted-over A n i.begins (omega (arith, to_come, (c.none refl).1 (rw (eq-eqb d.passed 0 e))))

begin_side : (A : List ℕ) → SideAt A A 0 (side 0 0)
unfolding place_from group_rest
begin_side A =
    let p : group_side A 0 ≡ part_to 0 (group_end A 0) = side_is A 0 in
    record {
      begins = ap (λ x. x.place) (sym p);
      size = rw p (omega arith);
      here = refl;
      within = omega arith;
    }

-- ---- a pair of which nothing is passed

fresh-bytes : {A s : List ℕ} {n p : ℕ} → SideAt A s n (side p 0) → bytes_in A (group_side A n) ≡ take (group_rest false s) s
fresh-bytes {A} {s} {n} {p} i =
    let e : (group_side A n).size ≡ group_rest false s = omega arith in
    let z : p + 0 ≡ p = omega arith in
    let h : drop p A ≡ s = rw z at i.here in
    rw (← i.begins, e, h)

fresh-same : {A B s t : List ℕ} {n p q : ℕ} → SideAt A s n (side p 0) → SideAt B t n (side q 0)
    → same_pair A B n ≡ (true && same_bytes (take (group_rest false s) s) (take (group_rest false t) t))
unfolding same_pair
fresh-same i j = rw (fresh-bytes i, fresh-bytes j)

-- ---- the list

module _ (A B : List ℕ) where
  lists_more : (n : ℕ) → n < pairs A B → differences_from_pair A B n ≡ pick (same_pair A B n) (differences_from_pair A B (n + 1)) (differs n (group_side A n) (group_side B n) ∷ differences_from_pair A B (n + 1))
  unfolding differences_from_pair listed
  lists_more n h = let k : pairs A B - n ≡ suc (pairs A B - suc n) = omega arith in rw (k, add-one n)

lowest_snoc : (ds : List Difference) (d : Difference) → lowest_in (ds ++ (d ∷ [])) ≡ or_number (lowest_in ds) d.number
lowest_snoc [] d = refl
lowest_snoc (e ∷ ds) d = refl

-- ---- the walk stands in the logs

record On (A B s t : List ℕ) (w : Walk) (ds : List Difference) : Type 0 where
  first : SideAt A s w.number w.first
  second : SideAt B t w.number w.second
  same : same_pair A B w.number ≡ (w.same && same_bytes (take (group_rest (begun_side w.first) s) s) (take (group_rest (begun_side w.second) t) t))
  lists : differences_from_pair A B 0 ≡ ds ++ differences_from_pair A B w.number
  count : w.differing ≡ length ds
  lowest : w.lowest ≡ lowest_in ds
  few : length ds ≤ w.number
  bound : w.number ≤ pairs A B

begin_on : (A B : List ℕ) → On A B A B walk_beginning []
begin_on A B =
    record {
      first = begin_side A;
      second = begin_side B;
      same = fresh-same (begin_side A) (begin_side B);
      lists = refl;
      count = refl;
      lowest = refl;
      few = omega arith;
      bound = omega arith;
    }

module _ {A B s t : List ℕ} {w : Walk} {ds : List Difference} (o : On A B s t w ds) (fa : length A < 2 ^ 64) (fb : length B < 2 ^ 64) where
  module _ {m n : ℕ} (c : Coming (begun_side w.first) s m) (d : Coming (begun_side w.second) t n) where
    on_row : {u : Bool} → u ≡ same_bytes (take m s) (take n t) → On A B (drop m s) (drop n t) (onward w m n u) ds
    on_row {u} e =
        record {
          first = side-moved o.first fa c;
          second = side-moved o.second fb d;
          same = rw (no_wrap o.first fa c, no_wrap o.second fb d, begun_after_lem w.first.passed m, begun_after_lem w.second.passed n, e) (o.same ∙ rw (same_split c d) (sym (and_assoc w.same (same_bytes (take m s) (take n t)) _)));
          lists = o.lists;
          count = o.count;
          lowest = o.lowest;
          few = o.few;
          bound = o.bound;
        }

  module _ (y : group_rest (begun_side w.first) s ≡ 0) (z : group_rest (begun_side w.second) t ≡ 0) where
    pair_same : same_pair A B w.number ≡ w.same
    pair_same = o.same ∙ rw (y, z) (and-true w.same)

    the-pair : differs w.number (group_side A w.number) (group_side B w.number) ≡ pair_of w
    the-pair = rw (side-whole o.first fa y, side-whole o.second fb z)

    module _ (h : w.number < pairs A B) (l : w.number + 1 < 2 ^ 64) where
      next-number : (w.number + 1) % 2 ^ 64 ≡ w.number + 1
      next-number = omega arith

      -- what is listed with this pair
      abbrev with_pair : List Difference
      with_pair = pick w.same ds (ds ++ (pair_of w ∷ []))

      lists-next : differences_from_pair A B 0 ≡ with_pair ++ differences_from_pair A B (w.number + 1)
      lists-next =
          o.lists
          ∙ rw (lists_more A B w.number h, pair_same, the-pair)
          (⊎_elim (λ q. rw q) (λ q. rw q (sym (append_assoc ds (pair_of w ∷ []) (differences_from_pair A B (w.number + 1))))) (flag w.same))

      lowest-next : lowest_of w ≡ lowest_in with_pair
      unfolding lowest_of
      lowest-next =
          ⊎_elim
          (λ q. rw q o.lowest)
          (λ (q : w.same ≡ false). rw (q, lowest_snoc ds (pair_of w), o.lowest))
          (flag w.same)

      on-pair : On A B s t (next_pair w) with_pair
      unfolding pairs_differing
      on-pair =
          let i : SideAt A s (w.number + 1) (side_behind w.first) = side-behind o.first fa y in
          let j : SideAt B t (w.number + 1) (side_behind w.second) = side-behind o.second fb z in
          record {
            first = rw next-number i;
            second = rw next-number j;
            same = rw next-number (fresh-same i j);
            lists = rw next-number lists-next;
            count = ⊎_elim (λ q. rw q o.count) (λ q. rw q (omega (arith, length-append ds (pair_of w ∷ []), o.count, o.few))) (flag w.same);
            lowest = lowest-next;
            few = rw next-number (⊎_elim (λ q. rw q (omega (arith, o.few))) (λ q. rw q (omega (arith, length-append ds (pair_of w ∷ []), o.few))) (flag w.same));
            bound = omega arith;
          }

    pair-there : (eqb w.first.passed 0 && eqb w.second.passed 0) ≡ false → (w.number < pairs A B) × (w.number + 1 < 2 ^ 64)
    pair-there q =
        ⊎_elim
        (λ e. let g = group-there o.second fb z (eqb-false w.second.passed 0 (rw e at q)) in omega arith)
        (λ e. let g = group-there o.first fa y (eqb-false w.first.passed 0 e) in omega arith)
        (flag (eqb w.first.passed 0))

  on_over : (eqb w.first.passed 0 && eqb w.second.passed 0) ≡ true → Coming (begun_side w.first) s 0 → Coming (begun_side w.second) t 0 → Listed A B w ds
  unfolding differences_from_pair listed
  on_over q c d =
      let p = eqb-true w.first.passed 0 (and_1 (eqb w.first.passed 0) (eqb w.second.passed 0) q) in
      let r = eqb-true w.second.passed 0 (and_2 (eqb w.first.passed 0) (eqb w.second.passed 0) q) in
      let g = over_here o.first fa p c in
      let h = over_here o.second fb r d in
      let k : pairs A B - w.number ≡ 0 = omega arith in
      let e : differences_from_pair A B 0 ≡ ds = o.lists ∙ rw k (append-nil ds) in
      record { all = sym e; number = omega arith; differing = rw e o.count; lowest = rw e o.lowest }

  -- ---- what a step tells

  module _ {a b : List ℕ} {whole ends : Bool} (f : Front s a whole) (g : Front t b ends) where
    abbrev StepTells : Step → Type 0
    StepTells (step.Wants log.First) = (whole ≡ false) × (length a < record_end a 0)
    StepTells (step.Wants log.Second) = (ends ≡ false) × (length b < record_end b 0)
    StepTells (step.Row m n u v) = On A B (drop m s) (drop n t) v ds
    StepTells (step.Pair d v) = On A B s t v (pick d (ds ++ (pair_of w ∷ [])) ds)
    StepTells step.Over = Listed A B w ds

    turned : pick (not w.same) (ds ++ (pair_of w ∷ [])) ds ≡ pick w.same ds (ds ++ (pair_of w ∷ []))
    turned = ⊎_elim (λ q. rw q) (λ q. rw q) (flag w.same)

    module _ {m n : ℕ} (c : Coming (begun_side w.first) s m) (d : Coming (begun_side w.second) t n) (k : m ≤ length a) (l : n ≤ length b) where
      row-tells : StepTells (record_row w a b m n)
      unfolding record_row pair_over
      row-tells =
          by_flag StepTells (eqb m 0 && eqb n 0) _ _
          (λ e.
          let x = eqb-true m 0 (and_1 (eqb m 0) (eqb n 0) e) in
          let y = eqb-true n 0 (and_2 (eqb m 0) (eqb n 0) e) in
          by_flag StepTells (untouched w) _ _
          (λ q. on_over q (rw x at c) (rw y at d))
          (λ q. let z = (c.none x).0 in let v = (d.none y).0 in let h = pair-there z v q in rw turned (on-pair z v h.0 h.1)))
          (λ e. on_row c d (rw (front_bytes f m k, front_bytes g n l)))

    on-tells : StepTells (stepped w a whole b ends)
    unfolding stepped
    on-tells = go (ahead (begun_side w.first) a whole) (ahead_shown (begun_side w.first) f) (ahead (begun_side w.second) b ends) (ahead_shown (begun_side w.second) g)
      where
        go : (x : Option ℕ) → AheadShown (begun_side w.first) f x → (y : Option ℕ) → AheadShown (begun_side w.second) g y → StepTells (step_shown w a b x y)
        go None p y q = p
        go (Some m) p None q = q
        go (Some m) p (Some n) q = row-tells (rw p.0 at (coming s (begun_side w.first))) (rw q.0 at (coming t (begun_side w.second))) p.1 q.1

-- ---- the theorem

module _ {A B : List ℕ} (fa : length A < 2 ^ 64) (fb : length B < 2 ^ 64) where
  walked_on : {s t : List ℕ} {w : Walk} {ds : List Difference} → Walked A B s t w ds → On A B s t w ds
  walked_on not_begun = begin_on A B
  walked_on (by_row k f g e) = rw e at (on-tells (walked_on k) fa fb f g)
  walked_on (by_same k f g e) = rw e at (on-tells (walked_on k) fa fb f g)
  walked_on (by_differing k f g e) = rw e at (on-tells (walked_on k) fa fb f g)

  module _ {s t : List ℕ} {w : Walk} {ds : List Difference} (k : Walked A B s t w ds) {a b : List ℕ} {whole ends : Bool} (f : Front s a whole) (g : Front t b ends) where
    -- the steps that came to the end listed the pairs that differ, each once, in order
    pub walked-lists : stepped w a whole b ends ≡ step.Over → Listed A B w ds
    walked-lists e = rw e at (on-tells (walked_on k) fa fb f g)

    -- and they come to it (with Progress): a log has to show more only where its bytes do not hold the next record whole
    pub wants-first : stepped w a whole b ends ≡ step.Wants log.First → (whole ≡ false) × (length a < record_end a 0)
    wants-first e = rw e at (on-tells (walked_on k) fa fb f g)

    pub wants-second : stepped w a whole b ends ≡ step.Wants log.Second → (ends ≡ false) × (length b < record_end b 0)
    wants-second e = rw e at (on-tells (walked_on k) fa fb f g)
