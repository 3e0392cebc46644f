-- From the numbers that the code decides by to what the access meets in Probe.
use Rattle.std.specs.Prelude.{Result, Ok, Option, Some, None}
use Rattle.words.proofs.General.{ℕ, ◌+◌, ◌*◌, ◌/◌, ◌%◌, ◌≤◌, ◌<◌, mod-lt, mul-le-mul, arith, ◌≡◌, refl, sym, ap, subst, ◌∙◌, ⊎_elim, Bool, true, List, get_or, flag}
use Rattle.model.proofs.Terms.{lines_of, is_tree, address_of, block_of, sector_index, set_index, Line, empty, fresh, emptied, dirty_count_at, power_to16, at, ways_of, enough_dirty, write_back}
use Rattle.model.proofs.Terms.{take_over, probe, Sized}
use Rattle.model.specs.declared.Settings.{Settings}
use Rattle.model.specs.declared.Queued.{Queued}
use Rattle.model.specs.declared.Access.{Access}
use Rattle.model.specs.declared.Answer.TheVariants.{Miss}
use Rattle.model.specs.declared.Refusal.{Refusal}
use Rattle.encoding.proofs.Rows.{set_room}
use Rattle.model.proofs.SoundFacts.{sector_below}
use Rattle.model.proofs.Fits.{power_most}
use Rattle.probe.specs.declared.Decision.{Decision}
use Rattle.probe.specs.Decided.{Decided, Stands, backs_of, place_is, lines_held, rule_held}
use Rattle.tables.specs.Raw.{dirty_at}
use Rattle.probe.specs.Scan.{found_in, victim_in, enough_in}
use Rattle.probe.specs.Values.{on_match, on_miss, taken_over}
use Rattle.tables.proofs.Statuses.{dirty-bytes}
use Rattle.probe.proofs.Ways.{Under, first_under, victim_under, at_under}
use Rattle.layout.proofs.OneOfFour.{sector_of_four}
use Rattle.probe.proofs.Lines.{way-is, found-is, waiting-is, victim_is}

-- the share of the lines, in a word
pub share_fits : {p n : ℕ} → p ≤ 100 → n ≤ 1024 → p * n ≤ 102400
share_fits h k = mul-le-mul h k

-- ---- the access's own set, whose lines begin at `base`

module _ (S : Settings) (longs words marks : List ℕ) (x : Access) (way : 1 ≤ S.ways) (room : set_index S (address_of x) * S.ways + S.ways ≤ lines_of S)
    (power : is_tree S ≡ true → power_to16 S.ways ≡ true) where
  abbrev base : ℕ
  base = set_index S (address_of x) * S.ways

  abbrev ways : List Line
  ways = ways_of S (lines_held S longs words marks) (address_of x)

  abbrev dirty_count : ℕ
  dirty_count = dirty_count_at S words

  met_place : (w : ℕ) → w < S.ways → found_in longs marks base S.ways (block_of (address_of x)) ≡ Some w
      → place_is ways (address_of x) (Ok (on_match S words marks base w x)) ≡ probe (rule_held S words (address_of x)) S dirty_count ways x
  unfolding probe
  met_place w below e =
      rw (
        found-is S longs words marks base S.ways room (block_of (address_of x)),
        e,
        way-is S longs words marks base S.ways room w below,
        sector_of_four S words marks (base + w) (sector_index (address_of x)) empty (sector_below (address_of x)),
      )

  own_met : (w : ℕ) → found_in longs marks base S.ways (block_of (address_of x)) ≡ Some w
      → Decided S longs words marks x (Ok (on_match S words marks base w x))
  own_met w e =
      let below : w < S.ways = at_under S.ways _ (first_under _ S.ways S.ways (omega arith)) refl e in
      record {
        place = met_place w below e;
        stands = λ d q. let z : on_match S words marks base w x ≡ d = cc in rw (← z) record { way = below; line = refl; below = omega arith };
      }

  -- the write-back of a victim
  taken_backs : (w : ℕ) → w < S.ways → backs_of (on_miss S longs words base w (dirty_at marks (base + w))) ≡ write_back (get_or ways w fresh)
  taken_backs w below =
      rw (way-is S longs words marks base S.ways room w below, dirty-bytes S longs words marks (base + w)) (⊎_elim (λ e. rw e) (λ e. rw e) (flag (dirty_at marks (base + w))))

  taken-place : (v : Option ℕ) → Under S.ways v
      → place_is ways (address_of x) (taken_over S longs words marks base S.ways v) ≡ take_over (address_of x) ways v
  taken-place (Some w) below =
      ap (λ (q : List Queued). at record { way = w; line = emptied (block_of (address_of x)); answer = Miss; backs = q })
      (taken_backs w below)
  taken-place None h = rw (waiting-is S longs words marks base S.ways room)

  own_missed : (v : Option ℕ) → found_in longs marks base S.ways (block_of (address_of x)) ≡ None
      → v ≡ victim_in S words marks (set_index S (address_of x)) base (enough_dirty S dirty_count)
      → Decided S longs words marks x (taken_over S longs words marks base S.ways v)
  unfolding probe
  own_missed v e q = record {
    place =
        rw (found-is S longs words marks base S.ways room (block_of (address_of x)), e)
        (taken-place v under ∙ ap (take_over (address_of x) ways) (q ∙ sym (victim_is S longs words marks (set_index S (address_of x)) base room power dirty_count)));
    stands = go v under;
  }
    where
      under : Under S.ways v
      under = rw q (victim_under S words marks (set_index S (address_of x)) base _ power)

      go : (v : Option ℕ) → Under S.ways v → (d : Decision) → taken_over S longs words marks base S.ways v ≡ Ok d → Stands S x d
      go (Some w) below d e =
          let z : on_miss S longs words base w (dirty_at marks (base + w)) ≡ d = cc in
          rw (← z) record {
            way = below;
            line = refl;
            below = omega arith;
          }
      go None h d e = let z : ◌≡◌ {A = ℕ} 0 1 = cc in absurd (omega arith)

-- ---- after a match on what is found

pub victim_below : (S : Settings) (words marks : List ℕ) (i base : ℕ) (enough : Bool) → (is_tree S ≡ true → power_to16 S.ways ≡ true) → {v : Option ℕ} {w : ℕ}
    → v ≡ victim_in S words marks i base enough → v ≡ Some w → w < S.ways
victim_below S words marks i base enough power e g = at_under S.ways (victim_in S words marks i base enough) (victim_under S words marks i base enough power) e g

pub missed_as : (S : Settings) (longs words marks : List ℕ) (base ways : ℕ) {r : Result Decision Refusal} {v u w : Option ℕ} → v ≡ u → v ≡ w → r ≡ taken_over S longs words marks base ways w → r ≡ taken_over S longs words marks base ways u
missed_as S longs words marks base ways e g q = rw (← e, g) q

-- ---- the code's address, set and block are the access's

module _ {S : Settings} {longs words marks : List ℕ} (fit : Sized S longs words marks) (x : Access) {address set : ℕ} (ea : address ≡ address_of x) (es : set ≡ address / 128 % S.sets) where
  here : set ≡ set_index S (address_of x)
  here = es ∙ ap (λ (a : ℕ). a / 128 % S.sets) ea

  pub set-inside : set < S.sets
  set-inside = rw here (mod-lt (address_of x / 128) fit.sets)

  pub few_sets : set < 256
  few_sets = let h = set-inside in let m = power_most S.sets fit.power in omega arith

  pub ways_room : set * S.ways + S.ways ≤ lines_of S
  ways_room = set_room S address es fit.sets fit.ways

  room : set_index S (address_of x) * S.ways + S.ways ≤ lines_of S
  room = subst (λ (k : ℕ). k * S.ways + S.ways ≤ lines_of S) here ways_room

  module _ {block base : ℕ} {f : Option ℕ} (eb : block ≡ block_of address) (el : base ≡ set * S.ways) (ef : f ≡ found_in longs marks base S.ways block) where
    pub found_below : {w : ℕ} → f ≡ Some w → w < S.ways
    found_below g = at_under S.ways _ (first_under _ S.ways S.ways (omega arith)) ef g

    first : base ≡ set_index S (address_of x) * S.ways
    first = el ∙ ap (λ (k : ℕ). k * S.ways) here

    found : f ≡ found_in longs marks (set_index S (address_of x) * S.ways) S.ways (block_of (address_of x))
    found = rw (ef, first, eb, ea)

    pub decided-met : {w : ℕ} {d : Decision} → f ≡ Some w → d ≡ on_match S words marks base w x → Decided S longs words marks x (Ok d)
    decided-met g q = rw (q, first) (own_met S longs words marks x fit.ways room fit.tree _ (sym found ∙ g))

    pub decided-missed : {r : Result Decision Refusal} → f ≡ None
        → r ≡ taken_over S longs words marks base S.ways (victim_in S words marks set base (enough_in S words))
        → Decided S longs words marks x r
    decided-missed g q = rw (q, first, here) (own_missed S longs words marks x fit.ways room fit.tree _ (sym found ∙ g) refl)
