-- What a chain answers over the numbers from a up to b, or over the elements of a slice: `all` is `every`, `any` is `some`, and the
-- `count` behind a `filter` is `count_below`.
use mathlib.Core.Path.{◌≡◌, refl, sym, ap, ◌∙◌}
use mathlib.Core.Logic.{⊎_elim}
use mathlib.Core.Bool.{Bool, true, false}
use mathlib.Core.List.{List}
use Prim.Native.Nat.{ℕ, zero, suc, ◌+◌, ◌-◌, ◌<◌}
use native.Mathlib.Nat.{add-zero, zero-add, sub-zero}
use native.Mathlib.Omega.{arith}
use lib.ListN.{length, get_or}
use denote.Param.Members.{Mut}
use denote.Ref.{Bor}
use Rattle.std.specs.Bool.{MatchBool}
use Rattle.std.specs.Fn.{Called, CalledAt}
use Rattle.std.specs.Iterator.{YieldsThen, Drains}
use Rattle.std.specs.Iterator.Adapters.{filter_source, filter_callee, filter_steps}
use Rattle.std.specs.List.{FoldsTo, range_with_len, AllWithin, HoldsAt, filter}
use Rattle.std.specs.Option.{MatchOption}
use Rattle.std.specs.Prelude.{Option}
use Rattle.std.specs.Slice.Iter.{iter_rest}
use Rattle.std.specs.declared.ops.Range.{Range}
use Rattle.std.specs.declared.slice.Iter.{Iter}
use Rattle.std.specs.declared.iter.Filter.{Filter}
use Rattle.std.proofs.iter.Yields.{fronts, nat_range_steps}
use Rattle.std.proofs.lemmas.Iterator.{YieldsList-from_range, YieldsList-from_slice, cases_from_all, cases_from_any}
use Rattle.std.proofs.lemmas.Iterator.Consumers.{YieldsList-from_filter, count_from_yields_List}
use Rattle.std.proofs.lemmas.List.FromFn.{length-range_with_len, get_or-range_with_len}
use Rattle.words.specs.Words.{every, some, count_below, one}
use Rattle.words.proofs.Below.{every_at, every_i, some_i, some_at, every-same, some_same, count_same}
use Rattle.words.proofs.Flags.{no-yes, clash, flag}

-- ---- over any list: what is true exactly where every element passes, or where some does

module _ (p : ℕ → Bool) (xs : List ℕ) where
  abbrev passes : ℕ → Bool
  passes k = p (get_or xs k 0)

  told_all : (r : Bool) → MatchBool r (AllWithin (λ x. p x ≡ true) xs 0 (length xs)) ((k : ℕ) × (k < length xs) × HoldsAt (λ x. p x ≡ false) xs k) → r ≡ every (length xs) passes
  told_all true h = sym (every_i passes (length xs) (λ k l. h k 0 (omega arith) l))
  told_all false h = sym (no-yes (λ e. clash (every_at passes (length xs) h.0 e h.1) (h.2 0)))

  told_any : (r : Bool) → MatchBool r ((k : ℕ) × (k < length xs) × HoldsAt (λ x. p x ≡ true) xs k) (AllWithin (λ x. p x ≡ false) xs 0 (length xs)) → r ≡ some (length xs) passes
  told_any true h = sym (some_i passes (length xs) h.0 h.1 (h.2 0))
  told_any false h = sym (no-yes (λ e. let w = some_at passes (length xs) e in clash w.2 (h w.0 0 (omega arith) w.1)))

-- ---- `(a..b).all(f)` and `(a..b).any(f)`, where f answers p; then from 0 on

module _ (a b : ℕ) (p : ℕ → Bool) where
  abbrev all : List ℕ
  all = range_with_len a (b - a)

  at_place : (k : ℕ) → k < b - a → p (get_or all k 0) ≡ p (a + k)
  at_place k h = ap p (get_or-range_with_len a (b - a) k 0 h)

  every_listed : every (length all) (λ k. p (get_or all k 0)) ≡ every (b - a) (λ k. p (a + k))
  every_listed = ap (λ (n : ℕ). every n (λ k. p (get_or all k 0))) (length-range_with_len a (b - a)) ∙ every-same _ _ (b - a) at_place

  some_listed : some (length all) (λ k. p (get_or all k 0)) ≡ some (b - a) (λ k. p (a + k))
  some_listed = ap (λ (n : ℕ). some n (λ k. p (get_or all k 0))) (length-range_with_len a (b - a)) ∙ some_same _ _ (b - a) at_place

module _ {F : Type 0} {g : Mut F (ℕ × Unit {0}) Bool} {s u : Range ℕ} {f : F} {r : Bool} (a b : ℕ) (p : ℕ → Bool) (is : s ≡ record { start = a; end = b })
    (answers : (x : ℕ) (r : Bool) (q : F) → Called g f (x, tt) r q → (q ≡ f) × (r ≡ p x)) where
  pub every-from_part : (xs : List ℕ) × (o : Option ℕ) × (j : F) × YieldsThen nat_range_steps s xs o u × FoldsTo (λ p x q. Called g p (x, tt) true q) f xs j × MatchOption o (r ≡ true) (λ x. (r ≡ false) × ((h : F) × Called g j (x, tt) false h))
      → r ≡ every (b - a) (λ k. p (a + k))
  every-from_part d =
      told_all p (all a b p) r
      (cases_from_all u f r (λ x. p x ≡ true) (λ x. p x ≡ false) d (YieldsList-from_range a b (b - a) is refl)
      (λ x q k. let w = answers x true q k in (w.0, sym w.1)) (λ x q k. sym (answers x false q k).1))
      ∙ every_listed a b p

  pub some-from_part : (xs : List ℕ) × (o : Option ℕ) × (j : F) × YieldsThen nat_range_steps s xs o u × FoldsTo (λ p x q. Called g p (x, tt) false q) f xs j × MatchOption o (r ≡ false) (λ x. (r ≡ true) × ((h : F) × Called g j (x, tt) true h))
      → r ≡ some (b - a) (λ k. p (a + k))
  some-from_part d =
      told_any p (all a b p) r
      (cases_from_any u f r (λ x. p x ≡ true) (λ x. p x ≡ false) d (YieldsList-from_range a b (b - a) is refl)
      (λ x q k. sym (answers x true q k).1) (λ x q k. let w = answers x false q k in (w.0, sym w.1)))
      ∙ some_listed a b p

module _ {F : Type 0} {g : Mut F (ℕ × Unit {0}) Bool} {s u : Range ℕ} {f : F} {r : Bool} (n : ℕ) (p : ℕ → Bool) (is : s ≡ record { start = 0; end = n })
    (answers : (x : ℕ) (r : Bool) (q : F) → Called g f (x, tt) r q → (q ≡ f) × (r ≡ p x)) where
  pub every-from_all : (xs : List ℕ) × (o : Option ℕ) × (j : F) × YieldsThen nat_range_steps s xs o u × FoldsTo (λ p x q. Called g p (x, tt) true q) f xs j × MatchOption o (r ≡ true) (λ x. (r ≡ false) × ((h : F) × Called g j (x, tt) false h))
      → r ≡ every n p
  every-from_all d = every-from_part 0 n p is answers d ∙ rw (sub-zero n) (every-same _ _ n (λ k h. ap p (zero-add k)))

  pub some-from_any : (xs : List ℕ) × (o : Option ℕ) × (j : F) × YieldsThen nat_range_steps s xs o u × FoldsTo (λ p x q. Called g p (x, tt) false q) f xs j × MatchOption o (r ≡ false) (λ x. (r ≡ true) × ((h : F) × Called g j (x, tt) true h))
      → r ≡ some n p
  some-from_any d = some-from_part 0 n p is answers d ∙ rw (sub-zero n) (some_same _ _ n (λ k h. ap p (zero-add k)))

-- ---- `xs.iter().all(f)`

module _ {F : Type 0} {g : Mut F (Bor ℕ × Unit {0}) Bool} {s u : Iter ℕ} {f : F} {r : Bool} (xs : List ℕ) (p : ℕ → Bool) (is : iter_rest s ≡ xs)
    (answers : (x : Bor ℕ) (r : Bool) (q : F) → Called g f (x, tt) r q → (q ≡ f) × (r ≡ p x.now)) where
  pub every-from_items : (ys : List (Bor ℕ)) × (o : Option (Bor ℕ)) × (j : F) × YieldsThen fronts s ys o u × FoldsTo (λ p x q. Called g p (x, tt) true q) f ys j × MatchOption o (r ≡ true) (λ x. (r ≡ false) × ((h : F) × Called g j (x, tt) false h))
      → r ≡ every (length xs) (λ k. p (get_or xs k 0))
  every-from_items d =
      told_all p xs r
      (cases_from_all u f r (λ x. p x ≡ true) (λ x. p x ≡ false) d (YieldsList-from_slice xs is)
      (λ x q k. let w = answers x true q k in (w.0, sym w.1)) (λ x q k. sym (answers x false q k).1))

-- ---- `(0..n).filter(f).count()`, where f answers p

count_front : (p : ℕ → Bool) (n : ℕ) → count_below (suc n) p ≡ one (p 0) + count_below n (λ k. p (suc k))
count_front p zero = omega arith
count_front p (suc n) = omega (arith, count_front p n)

count_listed : (p : ℕ → Bool) (a n : ℕ) → length (filter p (range_with_len a n)) ≡ count_below n (λ k. p (a + k))
count_listed p a zero = refl
count_listed p a (suc n) =
    let rest : count_below n (λ k. p (a + suc k)) ≡ count_below n (λ k. p (a + 1 + k)) = count_same _ _ n (λ k h. ap p (omega arith)) in
    let now : p (a + 0) ≡ p a = ap p (add-zero a) in
    rw (count_front (λ k. p (a + k)) n, rest, now, ← count_listed p (a + 1) n) (⊎_elim (λ e. rw e (omega arith)) (λ e. rw e (omega arith)) (flag (p a)))

module _ {F : Type 0} {g : Mut F (Bor ℕ × Unit {0}) Bool} {s : Filter (Range ℕ) F} {f : F} {r : ℕ} (n : ℕ) (p : ℕ → Bool) (is : filter_source s ≡ record { start = 0; end = n }) (by : filter_callee s ≡ f)
    (answers : (x : ℕ) (r : Bool) (q : F) → CalledAt g f x r q → (q ≡ f) × (r ≡ p x)) where
  pub count-from_filter : (xs : List ℕ) × Drains (filter_steps nat_range_steps g) s xs × (r ≡ length xs) → r ≡ count_below n p
  count-from_filter d =
      count_from_yields_List s r d (YieldsList-from_filter g p (YieldsList-from_range 0 n n is (omega arith)) by answers)
      ∙ count_listed p 0 n
      ∙ count_same _ _ n (λ k h. ap p (zero-add k))
