-- The plan of an access: the entry that a merged read joins, and that the plan tells what `proceed` comes to.
use Rattle.std.specs.Prelude.{Result, Ok, Err}
use Rattle.words.proofs.General.{ℕ, suc, ◌+◌, ◌≤◌, ◌<◌, arith, ◌≡◌, refl, sym, ap, ◌∙◌, ⊎_elim, ◌≢◌, Bool, true, false, ◌&&◌, false≢true, List, [], ◌∷◌, length, get_or, leb}
use Rattle.words.proofs.General.{eqb-true, eq-eqb, le-leb, lt-leb, leb-true, pick, any, count, and_2, and_no, no-yes, flag, by_flag, any-in, count_index, any-one}
use Rattle.model.proofs.Terms.{in_range, address_of, is_read, sector_index, well_formed, Entry, Tables, entry_for, no_entry, lent, Spot, at, met_in, is_merge, is_miss, entry_full, proceed}
use Rattle.model.proofs.Terms.{Encodes}
use Rattle.model.specs.declared.Settings.{Settings}
use Rattle.model.specs.declared.Access.{Access}
use Rattle.model.specs.declared.Answer.{Answer}
use Rattle.model.specs.declared.Answer.TheVariants.{Hit, HitReserved, Miss, SectorMiss}
use Rattle.model.specs.declared.Refusal.TheVariants.{EntryFull}
use Rattle.model.proofs.SoundFacts.{Sound, parts, entry_at, address_is, sector_aligned, sector_below}
use Rattle.model.proofs.AccessKeepsSound.{Spotted, formed_good}
use Rattle.model.proofs.ProbeFindsSpot.{probe_spotted}
use Rattle.layout.specs.declared.Layout.{Layout}
use Rattle.layout.specs.Layout.{LaysOut}
use Rattle.layout.specs.Places.{First}
use Rattle.layout.proofs.ByBlocks.{is_stands}
use Rattle.tables.proofs.Misses.{misses_counted, count_at, entry_found, entry-missing}
use Rattle.access.specs.Plan.{Joining, entry_index, tickets_at, miss_plan, following}
use Rattle.access.specs.declared.plan.MissPlan.{MissPlan}
use Rattle.access.specs.declared.plan.MissPlan.TheVariants.{Joins}
use Rattle.model.specs.declared.Refusal.{Refusal}

-- ---- the first entry for an address

pub index_found : (a : ℕ) (es : List Entry) → any (entry_for a) es ≡ true → (entry_index a es < length es) × ((get_or es (entry_index a es) no_entry).address ≡ a)
index_found a [] e = absurd (false≢true e)
index_found a (x ∷ es) e =
    by_flag (λ (i : ℕ). (i < suc (length es)) × ((get_or (x ∷ es) i no_entry).address ≡ a)) (entry_for a x) _ _ (λ q. (omega arith, eqb-true x.address a q))
    (λ q. let w = index_found a es (rw q at e) in (omega (arith, w.0), w.1))

-- where one entry is for the address no other is
pub no_other_entry : (a : ℕ) (es : List Entry) → count (entry_for a) es ≡ 1 → (i : ℕ) → i < length es → entry_for a (get_or es i no_entry) ≡ true
    → (j : ℕ) → j < length es → j ≢ i → entry_for a (get_or es j no_entry) ≡ false
no_other_entry a es once i h e j k n = no-yes (λ f. n (count_index (entry_for a) no_entry es once j i k h f e))

-- so a full one is this one
any_full : (S : Settings) (a : ℕ) (es : List Entry) → any (entry_for a) es ≡ true → count (entry_for a) es ≡ 1
    → any (entry_full S a) es ≡ leb S.readers (tickets_at (entry_index a es) es)
any_full S a es e once =
    let w = index_found a es e in
    let here : entry_for a (get_or es (entry_index a es) no_entry) ≡ true = eq-eqb _ a w.1 in
    any-one (entry_full S a) es (entry_index a es) no_entry w.0 (λ j h n. rw (no_other_entry a es once (entry_index a es) w.0 here j h n)) ∙ rw here

-- sound tables have one entry for an address, if any
pub entry_once : (S : Settings) (t : Tables) → Sound S t → (a : ℕ) → any (entry_for a) t.misses ≡ true → count (entry_for a) t.misses ≡ 1
entry_once S t ok a h =
    let (e, m, q) = any-in (entry_for a) t.misses h in
    rw (eqb-true e.address a q) at (eqb-true (count (entry_for e.address) t.misses) 1 (entry_at S t ok e m).once)

-- ---- answers

merge_not_miss : (n : Answer) → is_merge n ≡ true → is_miss n ≡ false
merge_not_miss Hit e = refl
merge_not_miss HitReserved e = refl
merge_not_miss Miss e = absurd (false≢true e)
merge_not_miss SectorMiss e = absurd (false≢true e)

module _ (S : Settings) (range : in_range S ≡ true) (t : Tables) (ok : Sound S t) (x : Access) (formed : well_formed x ≡ true) (p : Spot)
    (probed : met_in S x t ≡ at p) where
  spotted : Spotted S t x p
  spotted = probe_spotted S range t ok x p probed

  -- a sector that is RESERVED has an entry
  pub merged_entry : is_merge p.answer ≡ true → any (entry_for (address_of x)) t.misses ≡ true
  merged_entry m =
      ap (λ (a : ℕ). any (entry_for a) t.misses) (sym (address_is (address_of x) (sector_aligned (address_of x) (formed_good x formed))))
      ∙ sym (spotted.agree (sector_index (address_of x)) (sector_below (address_of x)))
      ∙ sym spotted.merges ∙ m

  pub plan_is : proceed S x t (at p) ≡ following S x p t (miss_plan S x p t)
  unfolding proceed
  plan_is = ⊎_elim joins other (flag (is_read x && is_merge p.answer))
    where
      following-either : (b : Bool) (c e : Result MissPlan Refusal) → following S x p t (pick b c e) ≡ pick b (following S x p t c) (following S x p t e)
      following-either true c e = refl
      following-either false c e = refl

      both-tests : {X : Type 0} (a b : Bool) (y z : X) → pick (a && b) y z ≡ pick a (pick b y z) z
      both-tests true b y z = refl
      both-tests false b y z = refl

      joins : (is_read x && is_merge p.answer) ≡ true → proceed S x t (at p) ≡ following S x p t (miss_plan S x p t)
      joins e =
          let f = and_2 (is_read x) (is_merge p.answer) e in
          let h = merged_entry f in
          simp (e, and_no (is_read x) (is_miss p.answer) (merge_not_miss p.answer f), any_full S (address_of x) t.misses h (entry_once S t ok (address_of x) h), following-either)

      other : (is_read x && is_merge p.answer) ≡ false → proceed S x t (at p) ≡ following S x p t (miss_plan S x p t)
      other n = simp (n, both-tests, following-either)

-- ---- what the functions find

module _ (S : Settings) {longs words marks : List ℕ} (t : Tables) (is : Encodes S (lent longs words marks) t) {place : Layout} (p : LaysOut S place) where
  ok : Sound S t
  ok = parts S t is.soundly

  few : length t.misses ≤ S.misses
  few = leb-true (length t.misses) S.misses ok.few

  -- the search finds the one entry for the address
  pub record Found (a m e : ℕ) : Type 0 where
    pub all : m ≡ length t.misses
    pub inside : e < m
    pub index : e ≡ entry_index a t.misses
    pub tickets : get_or marks (place.counts + e) 0 ≡ tickets_at e t.misses

  pub found : (a : ℕ) {m e : ℕ} → any (entry_for a) t.misses ≡ true → First marks place.counts S.misses 0 m → First longs place.misses m a e → Found a m e
  found a {m} {e} h f g =
      let all : m ≡ length t.misses = misses_counted S t is p f in
      let w = index_found a t.misses h in
      let passed : e ≢ m = λ q. entry-missing S t (is_stands is) p few all g q (entry_index a t.misses) w.0 w.1 in
      let inside : e < m = omega (arith, g.most) in
      record {
        all = all;
        inside = inside;
        index = count_index (entry_for a) no_entry t.misses (entry_once S t ok a h) e (entry_index a t.misses) (omega arith) w.0
            (eq-eqb (get_or t.misses e no_entry).address a (entry_found S t (is_stands is) p few all g inside))
            (eq-eqb (get_or t.misses (entry_index a t.misses) no_entry).address a w.1);
        tickets = count_at S t (is_stands is) p few e (omega arith);
      }

-- what the plan is, by the tickets of the entry that is found
module _ (S : Settings) {longs words marks : List ℕ} {place : Layout} (p : LaysOut S place) {a m e : ℕ}
    (f : First marks place.counts S.misses 0 m) (g : First longs place.misses m a e) where
  pub joins_full : S.readers ≤ get_or marks (place.counts + e) 0 → Joining S (lent longs words marks) a (Err EntryFull)
  joins_full h = record { on = λ t is w. let u = found S t is p a w f g in rw (← u.index, ← u.tickets, le-leb S.readers (get_or marks (place.counts + e) 0) h) }

  pub joins_room : get_or marks (place.counts + e) 0 < S.readers → Joining S (lent longs words marks) a (Ok (Joins e (get_or marks (place.counts + e) 0)))
  joins_room h = record { on = λ t is w. let u = found S t is p a w f g in rw (← u.index, ← u.tickets, lt-leb S.readers (get_or marks (place.counts + e) 0) h) }
