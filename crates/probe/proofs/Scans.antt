-- Searches over the numbers below n: one turn of each loop, and what the loop has found where it ends.
use Rattle.std.specs.Prelude.{Option, Some, None}
use Rattle.words.proofs.General.{ℕ, zero, suc, ◌+◌, ◌-◌, ◌≤◌, ◌<◌, not-suc-le-zero, le_of_suc-le-suc, eq-or-lt_of_le, add-one, arith, ◌≡◌, refl, sym, ap, ⊎_elim, ◌≢◌, Bool}
use Rattle.words.proofs.General.{true, false, List, length, get_or, le-leb, lt-leb, eq-eqb, ne_eqb, pick, by_flag}
use denote.Param.Members.{Mut}
use denote.Ref.{Bor}
use Rattle.std.specs.Fn.{CalledAt}
use Rattle.std.specs.Iterator.{YieldsThen}
use Rattle.std.specs.List.{FoldsTo}
use Rattle.std.specs.Option.{MatchOption}
use Rattle.std.specs.declared.ops.Range.{Range}
use Rattle.std.proofs.iter.Yields.{nat_range_steps}
use Rattle.std.proofs.lemmas.Iterator.{first_from_Range}
use Rattle.model.proofs.Terms.{lines_of, is_fifo, words_from, cycle_region, taken_region, or_else, Sized, told}
use Rattle.model.specs.declared.Settings.{Settings}
use Rattle.layout.specs.declared.Layout.{Layout}
use Rattle.layout.specs.Layout.{LaysOut}
use Rattle.layout.proofs.ByPlace.{read_from}
use Rattle.probe.specs.Scan.{first_below, last_below, sooner, least_from, ages_from, last_unused_in, earliest_in, tree_in, victim_in}

-- downwards, the next is one below
pub one-before : (i : ℕ) → 0 < i → i ≡ i - 1 + 1
one-before i h = omega arith

module _ (p : ℕ → Bool) where
  -- ---- the first: none before i passed

  first_at : (n w : ℕ) → first_below w p ≡ None → p w ≡ true → w < n → first_below n p ≡ Some w
  unfolding first_below
  first_at zero w e g h = absurd (not-suc-le-zero h)
  first_at (suc n) w e g h =
      ⊎_elim (λ (k : w ≡ n). rw (← k, e, g)) (λ (k : w < n). rw (first_at n w e g k)) (eq-or-lt_of_le (le_of_suc-le-suc h))

  none_below : (n : ℕ) → ((k : ℕ) → k < n → p k ≡ false) → first_below n p ≡ None
  unfolding first_below
  none_below zero f = refl
  none_below (suc n) f = rw (none_below n (λ k h. f k (omega arith)), f n (omega arith))

  told_first : (n : ℕ) (r : Option ℕ) → MatchOption r ((k : ℕ) → 0 ≤ k → k < n → p k ≡ false) (λ i. (0 ≤ i) × (i < n) × (p i ≡ true) × ((k : ℕ) → 0 ≤ k → k < i → p k ≡ false))
      → r ≡ first_below n p
  told_first n None h = sym (none_below n (λ k l. h k (omega arith) l))
  told_first n (Some i) h = sym (first_at n i (none_below i (λ k l. h.3 k (omega arith) l)) h.2 h.1)

  later : p 0 ≡ false → (k : ℕ) → (1 ≤ k → p k ≡ false) → p k ≡ false
  later z zero f = z
  later z (suc k) f = f (omega arith)

  -- the same of those behind number 0, which does not pass
  told_later : (n : ℕ) → p 0 ≡ false → (r : Option ℕ) → MatchOption r ((k : ℕ) → 1 ≤ k → k < n → p k ≡ false) (λ i. (1 ≤ i) × (i < n) × (p i ≡ true) × ((k : ℕ) → 1 ≤ k → k < i → p k ≡ false))
      → r ≡ first_below n p
  told_later n z None h = sym (none_below n (λ k l. later z k (λ s. h k s l)))
  told_later n z (Some i) h = sym (first_at n i (none_below i (λ k l. later z k (λ s. h.3 k s l))) h.2 h.1)

  -- number 0 passes
  pub first-zero : (n : ℕ) → 1 ≤ n → p 0 ≡ true → Some 0 ≡ first_below n p
  unfolding first_below
  first-zero n l e = sym (first_at n 0 refl e l)

  -- ---- the last, from above: none from i on passed

  abbrev pub Unseen : ℕ → ℕ → Type 0
  Unseen n i = (i ≤ n) × (last_below n p ≡ last_below i p)

  pub unseen_start : (n : ℕ) → Unseen n n
  unseen_start n = (omega arith, refl)

  pub unseen_stop : (n i j : ℕ) {b : Bool} → i ≡ j + 1 → b ≡ p j → b ≡ true → Unseen n i → Some j ≡ last_below n p
  unfolding last_below
  unseen_stop n i j h e t u = rw (u.1, h, add-one j, ← e, t)

  pub unseen_more : (n i j : ℕ) {b : Bool} → i ≡ j + 1 → b ≡ p j → b ≡ false → Unseen n i → Unseen n j
  unfolding last_below
  unseen_more n i j h e t u = (omega arith, rw (u.1, h, add-one j, ← e, t))

  pub unseen_end : (n i : ℕ) → i ≡ 0 → Unseen n i → None ≡ last_below n p
  unfolding last_below
  unseen_end n i h u = rw (u.1, h)

  -- ---- the same in one pass with the least: of those from i on that pass q the least key is c, at b; `n` is none, whose key no other is above

  module _ (q : ℕ → Bool) (key : ℕ → ℕ) where
    abbrev Keeps : ℕ → ℕ → ℕ → Option ℕ → Type 0
    Keeps n b c None = (b ≡ n) × (c ≡ 4294967295)
    Keeps n b c (Some v) = (b ≡ v) × (v < n) × (c ≡ key v)

    abbrev pub Leads : ℕ → ℕ → ℕ → ℕ → Type 0
    Leads n i b c = Unseen n i × Keeps n b c (least_from (n - i) i q key)

    pub leads-start : (n : ℕ) → Leads n n n 4294967295
    unfolding least_from
    leads-start n = let e : n - n ≡ 0 = omega arith in (unseen_start n, rw e (refl, refl))

    -- one more below those from i on
    one_more : (n i j : ℕ) → i ≡ j + 1 → i ≤ n → least_from (n - j) j q key ≡ pick (q j) (sooner key j (least_from (n - i) i q key)) (least_from (n - i) i q key)
    unfolding least_from
    one_more n i j h k = let e : n - j ≡ suc (n - i) = omega arith in let s : i ≡ suc j = omega arith in rw (e, s)

    module _ (n i j b c : ℕ) (h : i ≡ j + 1) {u : Bool} (e : u ≡ p j) (no : u ≡ false) (l : Leads n i b c) where
      seen : Unseen n j
      seen = unseen_more n i j h e no l.0

      pub leads-take : {t : Bool} → t ≡ q j → t ≡ true → key j ≤ c → Leads n j j (key j)
      leads-take f y g = (seen, rw (one_more n i j h l.0.0, ← f, y) (go (least_from (n - i) i q key) l.1))
        where
          go : (v : Option ℕ) → Keeps n b c v → Keeps n j (key j) (sooner key j v)
          go None k = (refl, omega arith, refl)
          go (Some v) k = rw (le-leb (key j) (key v) (omega arith)) (refl, omega arith, refl)

      pub leads-pass : {t : Bool} → t ≡ q j → t ≡ false → Leads n j b c
      leads-pass f y = (seen, rw (one_more n i j h l.0.0, ← f, y) l.1)

      pub leads-later : c < key j → key j ≤ 4294967295 → Leads n j b c
      leads-later g m = (seen, rw (one_more n i j h l.0.0) (by_flag (Keeps n b c) (q j) _ _ (λ y. go (least_from (n - i) i q key) l.1) (λ y. l.1)))
        where
          go : (v : Option ℕ) → Keeps n b c v → Keeps n b c (sooner key j v)
          go None k = absurd (omega arith)
          go (Some v) k = rw (lt-leb (key j) (key v) (omega arith)) k

    module _ (n i b c : ℕ) (h : i ≡ 0) (l : Leads n i b c) where
      whole : least_from (n - i) i q key ≡ least_from n 0 q key
      whole = let e : n - 0 ≡ n = omega arith in rw (h, e)

      pub leads-some : b < n → Some b ≡ or_else (last_below n p) (least_from n 0 q key)
      leads-some g = rw (← unseen_end n i h l.0, ← whole) (go (least_from (n - i) i q key) l.1)
        where
          go : (v : Option ℕ) → Keeps n b c v → Some b ≡ v
          go None k = absurd (omega arith)
          go (Some v) k = ap Some k.0

      pub leads-none : n ≤ b → None ≡ or_else (last_below n p) (least_from n 0 q key)
      leads-none g = rw (← unseen_end n i h l.0, ← whole) (go (least_from (n - i) i q key) l.1)
        where
          go : (v : Option ℕ) → Keeps n b c v → None ≡ v
          go None k = refl
          go (Some v) k = absurd (omega arith)

-- ---- `(0..n).find(f)`, where f answers p

pub first_below-from_find : {F : Type 0} {g : Mut F (Bor ℕ × Unit {0}) Bool} {s : Range ℕ} (u : Range ℕ) {f : F} {r : Option ℕ} (n : ℕ) (p : ℕ → Bool) → s ≡ record { start = 0; end = n }
    → ((x : ℕ) (b : Bool) (q : F) → CalledAt g f x b q → (q ≡ f) × (b ≡ p x))
    → (xs : List ℕ) × (j : F) × YieldsThen nat_range_steps s xs r u × FoldsTo (λ p x q. CalledAt g p x false q) f xs j × MatchOption r (Unit {0}) (λ x. (h : F) × CalledAt g j x true h)
    → r ≡ first_below n p
first_below-from_find {s = s} u {f = f} {r = r} n p is answers ran =
    told_first p n r
    (rw is at (first_from_Range s u f r (λ x. p x ≡ true) (λ x. p x ≡ false) ran (λ x q k. sym (answers x true q k).1) (λ x q k. let a = answers x false q k in (a.0, sym a.1))))

-- the same behind number 0, which does not pass
pub first_below-from_later : {F : Type 0} {g : Mut F (Bor ℕ × Unit {0}) Bool} {s : Range ℕ} (u : Range ℕ) {f : F} {r : Option ℕ} (n : ℕ) (p : ℕ → Bool) → p 0 ≡ false → s ≡ record { start = 1; end = n }
    → ((x : ℕ) (b : Bool) (q : F) → CalledAt g f x b q → (q ≡ f) × (b ≡ p x))
    → (xs : List ℕ) × (j : F) × YieldsThen nat_range_steps s xs r u × FoldsTo (λ p x q. CalledAt g p x false q) f xs j × MatchOption r (Unit {0}) (λ x. (h : F) × CalledAt g j x true h)
    → r ≡ first_below n p
first_below-from_later {s = s} u {f = f} {r = r} n p z is answers ran =
    told_later p n z r
    (rw is at (first_from_Range s u f r (λ x. p x ≡ true) (λ x. p x ≡ false) ran (λ x q k. sym (answers x true q k).1) (λ x q k. let a = answers x false q k in (a.0, sym a.1))))

-- ---- where the cycles begin by which the rule compares candidates

pub ages_taken : {S : Settings} {at : Layout} → LaysOut S at → S.rule ≡ 1 → at.taken ≡ ages_from S
ages_taken {S} p e = rw (eq-eqb S.rule 1 e) (told p.taken)

pub ages_used : (S : Settings) → S.rule ≢ 1 → 1 ≡ ages_from S
ages_used S n = rw (ne_eqb S.rule 1 n)

-- they lie inside
pub ages_room : {S : Settings} {longs words marks : List ℕ} → Sized S longs words marks → (l : ℕ) → l ≤ lines_of S → ages_from S + l ≤ length words
ages_room {S} {longs} {words} f l h =
    let long = told f.words_long in
    by_flag (λ (n : ℕ). n + l ≤ length words) (is_fifo S) (words_from S taken_region) (words_from S cycle_region) (λ e. omega arith) (λ e. omega arith)

-- ---- one way, or else another

module _ (S : Settings) (words marks : List ℕ) (i base : ℕ) (enough : Bool) where
  pub victim-turned : {at : Layout} {r : Option ℕ} → LaysOut S at → S.rule ≡ 2
      → r ≡ or_else (last_unused_in marks base S.ways) (tree_in marks base S.ways enough (get_or words (at.trees + i) 0)) → r ≡ victim_in S words marks i base enough
  victim-turned p e f = rw (eq-eqb S.rule 2 e, ← read_from (told p.trees) words i) f

  pub victim_aged : {ages : ℕ} {r : Option ℕ} → S.rule ≢ 2 → ages ≡ ages_from S
      → r ≡ or_else (last_unused_in marks base S.ways) (earliest_in words marks ages base S.ways enough) → r ≡ victim_in S words marks i base enough
  victim_aged n e f = rw (ne_eqb S.rule 2 n, ← e) f

pub or_first : {r : Option ℕ} {v : ℕ} {l : Option ℕ} (x : Option ℕ) → r ≡ l → r ≡ Some v → Some v ≡ or_else l x
or_first x e g = rw (← e, g)

pub or_second : {r l x y : Option ℕ} → r ≡ l → r ≡ None → y ≡ x → y ≡ or_else l x
or_second e g h = rw (← e, g) h
