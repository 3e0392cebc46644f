-- What document 01 says of the victim, its write-back and the queue, as laws of the definitions.
use Rattle.std.specs.Prelude.{Option, Some, None}
use Rattle.words.proofs.General.{ℕ, ◌≤◌, ◌<◌, arith, ◌≡◌, refl, ap, ◌⊎◌, inl, inr, ⊎_elim, Bool, true, false, not, ◌&&◌, true≢false, List, [], map, length, get_or, length-append}
use Rattle.words.proofs.General.{eqb, leb, eqb-true, leb-true, leb-false, and_1, and_2, and_i, flag, not_yes, no-yes, clash, by_flag, In, all_in, in-any, in_get_or}
use Rattle.model.proofs.Terms.{Line, writing, Tables, done, is_reserved, is_modified, wholly_invalid, has_reserved, dirty, fresh, mask_ok, sector_ok, sound, tree_choice, levels}
use Rattle.model.proofs.Terms.{ways_of, enough_dirty, candidate, last, Rule, by_key, by_tree, choice_by, or_else, victim, Spot, at, probe, rule_of, takes_line, fetches, queues}
use Rattle.model.proofs.Terms.{places_needed, accept, access, Matched, Replaced, Queues}
use Rattle.model.specs.declared.Settings.{Settings}
use Rattle.model.specs.declared.Status.{Status}
use Rattle.model.specs.declared.Status.TheVariants.{Invalid, Reserved, Valid, Modified}
use Rattle.model.specs.declared.Sector.{Sector}
use Rattle.model.specs.declared.Queued.{Queued}
use Rattle.model.specs.declared.Access.{Access}
use Rattle.model.specs.declared.Event.{Event}
use Rattle.model.proofs.SoundFacts.{parts, sectors_at_lem}
use Rattle.model.proofs.Ways.{Finds, last_finds, victim_finds, Last, last_is_last, earliest_is_least, probe_by, way_in}
use Rattle.model.proofs.AccessCases.{access_judged}
use Rattle.model.proofs.ProbeFindsSpot.{fetches_one, back_one}

-- ---- the victim

module _ (R : Rule) (S : Settings) (d : ℕ) (ways : List Line) (w : ℕ) (chosen : victim R S d ways ≡ Some w) where
  abbrev able : Line → Bool
  able = candidate (enough_dirty S d)

  abbrev vacant : Line → Bool
  vacant l = able l && wholly_invalid l

  pub victim_is_way : w < length ways
  victim_is_way = let f : Finds able ways (Some w) = rw chosen at (victim_finds R S d ways) in f.0

  pub victim_is_candidate : candidate (enough_dirty S d) (get_or ways w fresh) ≡ true
  victim_is_candidate = let f : Finds able ways (Some w) = rw chosen at (victim_finds R S d ways) in f.1

  pub victim-not_reserved : has_reserved (get_or ways w fresh) ≡ false
  victim-not_reserved = not_yes (and_1 (not (has_reserved (get_or ways w fresh))) _ victim_is_candidate)

  -- "the highest wholly invalid candidate"
  pub victim_highest_invalid : (v : ℕ) → v < length ways → candidate (enough_dirty S d) (get_or ways v fresh) ≡ true
      → wholly_invalid (get_or ways v fresh) ≡ true
      → (wholly_invalid (get_or ways w fresh) ≡ true) × (v ≤ w)
  victim_highest_invalid v h c u = go (last vacant ways) chosen (last_finds vacant ways) (last_is_last vacant ways)
    where
      go : (r : Option ℕ) → or_else r (choice_by R able ways) ≡ Some w → Finds vacant ways r → Last vacant ways r
          → (wholly_invalid (get_or ways w fresh) ≡ true) × (v ≤ w)
      go None e f g = clash (and_i c u) (f (get_or ways v fresh) (in_get_or ways v fresh h))
      go (Some q) e f g =
          let i : q ≡ w = cc in (
            and_2 (able (get_or ways w fresh)) (wholly_invalid (get_or ways w fresh)) (rw i at f.1),
            ⊎_elim (λ l. leb-true v w l) (λ l. clash (and_i c u) (g v (omega (arith, leb-false v w l)) h)) (flag (leb v w)),
          )

  -- where it isn't wholly invalid, the rule chose it
  victim_chosen : wholly_invalid (get_or ways w fresh) ≡ false → choice_by R able ways ≡ Some w
  victim_chosen u = go (last vacant ways) chosen (last_finds vacant ways)
    where
      go : (r : Option ℕ) → or_else r (choice_by R able ways) ≡ Some w → Finds vacant ways r → choice_by R able ways ≡ Some w
      go None e f = e
      go (Some q) e f = let i : q ≡ w = cc in clash (and_2 (able (get_or ways w fresh)) (wholly_invalid (get_or ways w fresh)) (rw i at f.1)) u

-- "with none, the candidate with the earliest cycle, the lowest way among equals": under a rule by a key
module _ (key : Line → ℕ) (S : Settings) (d : ℕ) (ways : List Line) (w : ℕ) (chosen : victim (by_key key) S d ways ≡ Some w) where
  pub victim-earliest : wholly_invalid (get_or ways w fresh) ≡ false → (v : ℕ) → v < length ways
      → candidate (enough_dirty S d) (get_or ways v fresh) ≡ true
      → (key (get_or ways w fresh) ≤ key (get_or ways v fresh)) × (v < w → key (get_or ways w fresh) < key (get_or ways v fresh))
  victim-earliest u = rw (victim_chosen (by_key key) S d ways w chosen u) at (earliest_is_least key (candidate (enough_dirty S d)) ways)

-- under a rule by a tree: the choice of its descent
pub victim_by_tree_lem : (t : ℕ) (S : Settings) (d : ℕ) (ways : List Line) (w : ℕ) → victim (by_tree t) S d ways ≡ Some w → wholly_invalid (get_or ways w fresh) ≡ false
    → tree_choice (λ v. get_or (map (candidate (enough_dirty S d)) ways) v false) t (levels (length ways)) ≡ Some w
victim_by_tree_lem t = victim_chosen (by_tree t)

-- without a victim no way is a candidate
pub victim-none : (R : Rule) (S : Settings) (d : ℕ) (ways : List Line) → victim R S d ways ≡ None → (l : Line) → In l ways
    → candidate (enough_dirty S d) l ≡ false
victim-none R S d ways e = let f : Finds (candidate (enough_dirty S d)) ways None = rw e at (victim_finds R S d ways) in f

-- ---- what the probe meets: a way that matches, or a victim

module _ (R : Rule) (S : Settings) (d : ℕ) (ways : List Line) (x : Access) (p : Spot) where
  pub probe_meets : probe R S d ways x ≡ at p → Matched ways x p ⊎ Replaced R S d ways x p
  probe_meets =
      probe_by R S d ways x (λ (q : Spot). Matched ways x q ⊎ Replaced R S d ways x q) (λ w f. inl (record { way = f; line = refl; backs = refl }))
      (λ f w v. inr (record { none = f; way = v; answer = refl; backs = refl })) p

  -- ---- the write-back

  -- a write-back is of a victim with a MODIFIED sector: its block, its four masks
  pub write_back_is_victims : probe R S d ways x ≡ at p → (b : ℕ) (ms : List ℕ) → In (writing b ms) p.backs
      → (victim R S d ways ≡ Some p.way) × (dirty (get_or ways p.way fresh) ≡ true)
      × (b ≡ (get_or ways p.way fresh).tag) × (ms ≡ map (λ (s : Sector). s.mask) (get_or ways p.way fresh).sectors)
  write_back_is_victims h b ms i =
      probe_by R S d ways x (λ (q : Spot). In (writing b ms) q.backs → Back q.way) (λ w f j. absurd j)
      (λ f w v. by_flag (λ (q : List Queued). In (writing b ms) q → Back w) (dirty (get_or ways w fresh)) _ []
      (λ e. ⊎_elim (λ q. (v, e, ap (λ (y : Queued). y.address) q, ap (λ (y : Queued). y.masks) q)) (λ q. absurd q)) (λ e j. absurd j)) p h i
    where
      Back : ℕ → Type 0
      Back w = (victim R S d ways ≡ Some w) × (dirty (get_or ways w fresh) ≡ true)
          × (b ≡ (get_or ways w fresh).tag) × (ms ≡ map (λ (s : Sector). s.mask) (get_or ways w fresh).sectors)

  -- nothing is written back but a victim
  pub backs_at_most_one : probe R S d ways x ≡ at p → length p.backs ≤ 1
  backs_at_most_one h = ⊎_elim (λ m. rw m.backs (omega arith)) (λ r. rw r.backs (back_one (get_or ways p.way fresh))) (probe_meets h)

-- ---- the queue

-- "an access needs exactly as many free places as it will queue"
pub needed_is_queued : (x : Access) (p : Spot) → places_needed x p ≡ length (queues x p)
needed_is_queued x p = refl

pub places_at_most_two : (x : Access) (p : Spot) → length p.backs ≤ 1 → places_needed x p ≤ 2
places_at_most_two x p h = omega (arith, length-append (fetches x p.answer) p.backs, fetches_one x p.answer)

-- on sound tables a victim's masks are its dirty bytes: a sector's isn't 0 exactly if it is MODIFIED
pub mask_says_modified : (c : Status) (m : ℕ) (r : Bool) → is_reserved c ≡ false → mask_ok c m r ≡ true → not (eqb m 0) ≡ is_modified c
mask_says_modified Invalid m r f h = rw (eqb-true m 0 (and_1 (eqb m 0) r h))
mask_says_modified Reserved m r f h = absurd (true≢false f)
mask_says_modified Valid m r f h = rw (eqb-true m 0 (and_1 (eqb m 0) r h))
mask_says_modified Modified m r f h = search (and_1, and_2)

pub write_back_is_dirty-bytes : (R : Rule) (S : Settings) (t : Tables) → sound S t ≡ true → (d a w : ℕ) → victim R S d (ways_of S t.lines a) ≡ Some w
    → (s : Sector) → In s (get_or (ways_of S t.lines a) w fresh).sectors → not (eqb s.mask 0) ≡ is_modified s.status
write_back_is_dirty-bytes R S t ok d a w chosen s i =
    let ways : List Line = ways_of S t.lines a in
    let l : Line = get_or ways w fresh in
    let m : In l t.lines = way_in S t.lines a l (in_get_or ways w fresh (victim_is_way R S d ways w chosen)) in
    mask_says_modified s.status s.mask s.readable
    (no-yes (λ z. clash (in-any (λ (v : Sector). is_reserved v.status) l.sectors i z) (victim-not_reserved R S d ways w chosen)))
    (all_in sector_ok l.sectors (sectors_at_lem S t (parts S t ok) l m) i)

-- ---- an accepted access

pub nothing_else_queued : (S : Settings) (x : Access) (t : Tables) (es : List Event) (u : Tables) → access S x t ≡ done es u → Queues S x t es u
unfolding access accept
nothing_else_queued S x t es u =
    access_judged (rule_of S) S t x (λ o. o ≡ done es u → Queues S x t es u) (λ n h. let z : ◌≡◌ {A = ℕ} 0 1 = cc in absurd (omega arith))
    (λ p j h. record { spot = p; met = j.met; queue = cc; told = cc })

-- ---- a line that no MISS takes is the one that stands there

module _ (R : Rule) (S : Settings) (d : ℕ) (ways : List Line) (x : Access) (p : Spot) (stays : takes_line p.answer ≡ false) where
  pub line_stays : probe R S d ways x ≡ at p → p.line ≡ get_or ways p.way fresh
  line_stays e =
      probe_by R S d ways x (λ (q : Spot). takes_line q.answer ≡ false → q.line ≡ get_or ways q.way fresh) (λ w f s. refl) (λ f w v s. clash refl s) p e stays
