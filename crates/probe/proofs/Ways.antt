-- The searches of Probe over lines that stand in a table are searches over the numbers of the lines; the choice by a set's tree over a mask of the candidates.
use Rattle.std.specs.Prelude.{Option, Some, None}
use Rattle.words.proofs.General.{ℕ, zero, suc, ◌+◌, ◌^◌, ◌≤◌, ◌<◌, add-zero, zero-add, arith, ◌≡◌, refl, sym, ap, subst, ◌∙◌, ⊎_elim, Bool, true, false, List, [], ◌∷◌, ◌++◌}
use Rattle.words.proofs.General.{length, get_or, leb, pick, table, by_flag, flag, length_table, get_or_table, table_snoc}
use Rattle.model.proofs.Terms.{is_tree, Line, fresh, tree_at, power_to16, levels, is_in, tree_choice, next, or_else, first, last, older, earliest}
use Rattle.model.specs.declared.Settings.{Settings}
use Rattle.model.proofs.Trees.{Chooses, choice_chooses, levels_are, choice_same}
use Rattle.model.proofs.Ways.{Finds, earliest_finds}
use Rattle.probe.specs.Scan.{first_below, last_below, sooner, least_from, candidate_at, last_unused_in, tree_in, victim_in}

-- ---- one more line at the end

first_step : (a b : Bool) (v : Option ℕ) (n : ℕ) → pick a (Some 0) (next (or_else v (pick b (Some n) None))) ≡ or_else (pick a (Some 0) (next v)) (pick b (Some (suc n)) None)
first_step true b v n = refl
first_step false b (Some w) n = refl
first_step false true None n = refl
first_step false false None n = refl

last_step : (a b : Bool) (v : Option ℕ) (n : ℕ) → or_else (next (pick b (Some n) v)) (pick a (Some 0) None) ≡ pick b (Some (suc n)) (or_else (next v) (pick a (Some 0) None))
last_step a true v n = refl
last_step a false v n = refl

module _ (p : Line → Bool) (x : Line) where
  first_snoc : (l : List Line) → first p (l ++ (x ∷ [])) ≡ or_else (first p l) (pick (p x) (Some (length l)) None)
  first_snoc [] = refl
  first_snoc (y ∷ l) = rw (first_snoc l) (first_step (p y) (p x) (first p l) (length l))

  last_snoc : (l : List Line) → last p (l ++ (x ∷ [])) ≡ pick (p x) (Some (length l)) (last p l)
  last_snoc [] = refl
  last_snoc (y ∷ l) = rw (last_snoc l) (last_step (p y) (p x) (last p l) (length l))

-- ---- searches of a table

module _ (p : Line → Bool) (f : ℕ → Line) where
  pub first_table : (n : ℕ) → first p (table n f) ≡ first_below n (λ i. p (f i))
  unfolding table first_below
  first_table zero = refl
  first_table (suc n) = ap (first p) (table_snoc n f) ∙ first_snoc p (f n) (table n f) ∙ rw (first_table n, length_table n f)

  pub last_table : (n : ℕ) → last p (table n f) ≡ last_below n (λ i. p (f i))
  unfolding table last_below
  last_table zero = refl
  last_table (suc n) = ap (last p) (table_snoc n f) ∙ last_snoc p (f n) (table n f) ∙ rw (last_table n, length_table n f)

-- ---- the earliest, way by way from the first: the ways of the list are the numbers from w on

abbrev on : ℕ → Option ℕ → Option ℕ
on w None = None
on w (Some v) = Some (w + v)

module _ (key : Line → ℕ) (p : Line → Bool) (f : ℕ → Line) where
  -- a way before those of a table of n, of which v is found
  least_step : (n w : ℕ) (g : ℕ → Line) → ((i : ℕ) → g i ≡ f (suc w + i)) → (v : Option ℕ) → Finds p (table n g) v
      → on w (pick (p (f w)) (older key (table n g) (key (f w)) v) (next v))
      ≡ pick (p (f w)) (sooner (λ i. key (f i)) w (on (suc w) v)) (on (suc w) v)
  least_step n w g h None e = ⊎_elim (λ (y : p (f w) ≡ true). rw y (ap Some (add-zero w))) (λ y. rw y) (flag (p (f w)))
  least_step n w g h (Some v) e =
      let d : get_or (table n g) v fresh ≡ f (suc w + v) = get_or_table n g v fresh (omega (arith, e.0, length_table n g)) ∙ h v in
      rw d (go (p (f w)) (leb (key (f w)) (key (f (suc w + v)))))
    where
      go : (b c : Bool) → on w (pick b (pick c (Some 0) (Some (suc v))) (Some (suc v))) ≡ pick b (pick c (Some w) (Some (suc w + v))) (Some (suc w + v))
      go true true = ap Some (add-zero w)
      go true false = ap Some (omega arith)
      go false c = ap Some (omega arith)

  least_table : (n w : ℕ) (g : ℕ → Line) → ((i : ℕ) → g i ≡ f (w + i))
      → on w (earliest key p (table n g)) ≡ least_from n w (λ i. p (f i)) (λ i. key (f i))
  unfolding table least_from
  least_table zero w g h = refl
  least_table (suc n) w g h =
      let later : (i : ℕ) → g (suc i) ≡ f (suc w + i) = λ i. h (suc i) ∙ ap f (omega arith) in
      rw (h 0 ∙ ap f (add-zero w)) (least_step n w (λ i. g (suc i)) later (earliest key p (table n (λ i. g (suc i)))) (earliest_finds key p (table n (λ i. g (suc i)))))
      ∙ ap (λ (v : Option ℕ). pick (p (f w)) (sooner (λ i. key (f i)) w v) v) (least_table n (suc w) (λ i. g (suc i)) later)

  pub earliest_table : (n : ℕ) → earliest key p (table n f) ≡ least_from n 0 (λ i. p (f i)) (λ i. key (f i))
  earliest_table n = sym (go (earliest key p (table n f))) ∙ least_table n 0 f (λ i. ap f (sym (zero-add i)))
    where
      go : (v : Option ℕ) → on 0 v ≡ v
      go None = refl
      go (Some v) = ap Some (zero-add v)

-- ---- a way that is found is below the number of ways

abbrev pub Under : ℕ → Option ℕ → Type 0
Under n None = Unit
Under n (Some w) = w < n

under_or : (n : ℕ) (v u : Option ℕ) → Under n v → Under n u → Under n (or_else v u)
under_or n None u h k = k
under_or n (Some w) u h k = h

pub first_under : (p : ℕ → Bool) (n m : ℕ) → n ≤ m → Under m (first_below n p)
unfolding first_below
first_under p zero m h = tt
first_under p (suc n) m h = under_or m (first_below n p) _ (first_under p n m (omega arith)) (by_flag (Under m) (p n) (Some n) None (λ e. omega arith) (λ e. tt))

last_under : (p : ℕ → Bool) (n m : ℕ) → n ≤ m → Under m (last_below n p)
unfolding last_below
last_under p zero m h = tt
last_under p (suc n) m h = by_flag (Under m) (p n) (Some n) (last_below n p) (λ e. omega arith) (λ e. last_under p n m (omega arith))

pub least_under : (p : ℕ → Bool) (key : ℕ → ℕ) (n w m : ℕ) → w + n ≤ m → Under m (least_from n w p key)
unfolding least_from
least_under p key zero w m h = tt
least_under p key (suc n) w m h =
    let above : Under m (least_from n (suc w) p key) = least_under p key n (suc w) m (omega arith) in
    by_flag (Under m) (p w) (sooner key w (least_from n (suc w) p key)) (least_from n (suc w) p key) (λ e. go (least_from n (suc w) p key) above) (λ e. above)
  where
    go : (v : Option ℕ) → Under m v → Under m (sooner key w v)
    go None u = omega arith
    go (Some v) u = by_flag (Under m) (leb (key w) (key v)) (Some w) (Some v) (λ e. omega arith) (λ e. u)

-- by the tree too
chooses_under : (p : ℕ → Bool) (n : ℕ) (v : Option ℕ) → Chooses p n v → Under n v
chooses_under p n None h = tt
chooses_under p n (Some w) h = h.0

tree_under : (marks : List ℕ) (base ways : ℕ) (enough : Bool) (t : ℕ) → power_to16 ways ≡ true → Under ways (tree_in marks base ways enough t)
tree_under marks base ways enough t power =
    subst (λ (n : ℕ). Under n (tree_in marks base ways enough t)) (sym (levels_are ways power).0)
    (chooses_under (λ w. candidate_at marks enough (base + w)) (2 ^ levels ways) (tree_in marks base ways enough t) (choice_chooses (λ w. candidate_at marks enough (base + w)) t (levels ways)))

pub victim_under : (S : Settings) (words marks : List ℕ) (i base : ℕ) (enough : Bool) → (is_tree S ≡ true → power_to16 S.ways ≡ true)
    → Under S.ways (victim_in S words marks i base enough)
victim_under S words marks i base enough power =
    under_or S.ways (last_unused_in marks base S.ways) _ (last_under _ S.ways S.ways (omega arith))
    (by_flag (Under S.ways) (is_tree S) _ _ (λ e. tree_under marks base S.ways enough (tree_at S words i) (power e)) (λ e. least_under _ _ S.ways 0 S.ways (omega arith)))

pub at_under : {r : Option ℕ} {w : ℕ} (n : ℕ) (v : Option ℕ) → Under n v → r ≡ v → r ≡ Some w → w < n
at_under n v h e g = rw (← e, g) at h

-- ---- the choice by a set's tree, over a mask of the candidates

module _ (marks : List ℕ) (base ways tree : ℕ) (power : power_to16 ways ≡ true) where
  abbrev able : Bool → ℕ → Bool
  able enough w = candidate_at marks enough (base + w)

  pub by_mask : (enough : Bool) (m : ℕ) {r : Option ℕ} → ((w : ℕ) → w < ways → is_in m w ≡ able enough w)
      → r ≡ tree_choice (is_in m) tree (levels ways) → r ≡ tree_in marks base ways enough tree
  by_mask enough m f e = e ∙ choice_same (is_in m) (able enough) tree (levels ways) (λ w l. f w (omega (arith, (levels_are ways power).0)))
