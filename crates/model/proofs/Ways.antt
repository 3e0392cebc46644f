-- The ways of a set: what a search among them finds, what the probe makes of it, and which lines of the cache they are.
use Rattle.std.specs.Prelude.{Option, Some, None}
use Rattle.words.proofs.General.{ℕ, zero, suc, ◌+◌, ◌*◌, ◌-◌, ◌/◌, ◌%◌, ◌≤◌, ◌<◌, ◌^◌, min, div-add-mod', mod-lt, mul-add-div_right, div-eq_of_lt, add-zero, arith, ◌≡◌, refl, sym}
use Rattle.words.proofs.General.{ap, subst, ◌∙◌, ⊎_elim, Bool, true, false, ◌&&◌, List, [], ◌∷◌, map, length, get_or, drop, length-take, length-drop, get_or-take, get_or-drop, leb}
use Rattle.words.proofs.General.{leb-true, leb-false, pick, any, and_1, clash, by_flag, In, in_get_or, in_index, get_or-map_in, in_take, in_drop, by_suc}
use Rattle.model.proofs.Terms.{address_of, block_of, sector_index, set_index, line_number, Line, wholly_invalid, has_reserved, holds, empty, emptied, fresh, levels, answer_of}
use Rattle.model.proofs.Terms.{ways_of, enough_dirty, candidate, next, or_else, first, last, older, earliest, Rule, by_key, by_tree, choice_by, victim, Spot, Place, no, at}
use Rattle.model.proofs.Terms.{write_back, take_over, meet, probe}
use Rattle.model.specs.declared.Settings.{Settings}
use Rattle.model.specs.declared.Access.{Access}
use Rattle.model.specs.declared.Answer.TheVariants.{Miss}
use Rattle.model.specs.declared.Refusal.TheVariants.{SetBusy, SetHeld}
use Rattle.model.proofs.Trees.{Chooses, choice_chooses, levels_reach}

-- ---- searches

-- a way that passes, or none does
abbrev pub Finds : (Line → Bool) → List Line → Option ℕ → Type 0
Finds p ls None = (l : Line) → In l ls → p l ≡ false
Finds p ls (Some w) = (w < length ls) × (p (get_or ls w fresh) ≡ true)

module _ (p : Line → Bool) (l : Line) (ls : List Line) where
  next_finds : p l ≡ false → (v : Option ℕ) → Finds p ls v → Finds p (l ∷ ls) (next v)
  next_finds e None g = λ m. ⊎_elim (λ q. rw q e) (g m)
  next_finds e (Some w) g = (omega (arith, g.0), g.1)

  last_step : (v : Option ℕ) → Finds p ls v → (b : Bool) → p l ≡ b → Finds p (l ∷ ls) (or_else (next v) (pick b (Some 0) None))
  last_step None g true e = (omega arith, e)
  last_step None g false e = next_finds e None g
  last_step (Some w) g b e = (omega (arith, g.0), g.1)

  older_finds : (key : Line → ℕ) → p l ≡ true → (v : Option ℕ) → Finds p ls v → Finds p (l ∷ ls) (older key ls (key l) v)
  older_finds key e None g = (omega arith, e)
  older_finds key e (Some w) g =
      by_flag (λ (v : Option ℕ). Finds p (l ∷ ls) v) (leb (key l) (key (get_or ls w fresh))) (Some 0) (Some (suc w))
      (λ q. (omega arith, e)) (λ q. (omega (arith, g.0), g.1))

pub first_finds : (p : Line → Bool) (ls : List Line) → Finds p ls (first p ls)
first_finds p [] = λ l m. absurd m
first_finds p (l ∷ ls) =
    by_flag (λ (v : Option ℕ). Finds p (l ∷ ls) v) (p l) (Some 0) (next (first p ls))
    (λ e. (omega arith, e)) (λ e. next_finds p l ls e (first p ls) (first_finds p ls))

pub last_finds : (p : Line → Bool) (ls : List Line) → Finds p ls (last p ls)
last_finds p [] = λ l m. absurd m
last_finds p (l ∷ ls) = last_step p l ls (last p ls) (last_finds p ls) (p l) refl

pub earliest_finds : (key : Line → ℕ) (p : Line → Bool) (ls : List Line) → Finds p ls (earliest key p ls)
earliest_finds key p [] = λ l m. absurd m
earliest_finds key p (l ∷ ls) =
    by_flag (λ (v : Option ℕ). Finds p (l ∷ ls) v) (p l) (older key ls (key l) (earliest key p ls)) (next (earliest key p ls))
    (λ e. older_finds p l ls key e (earliest key p ls) (earliest_finds key p ls)) (λ e. next_finds p l ls e (earliest key p ls) (earliest_finds key p ls))

-- the flags of the ways
pub flag_is : (p : Line → Bool) (ls : List Line) (w : ℕ) → w < length ls → get_or (map p ls) w false ≡ p (get_or ls w fresh)
flag_is p ls w h = get_or-map_in p ls fresh false w h

flag_at : (p : Line → Bool) (ls : List Line) (w : ℕ) → get_or (map p ls) w false ≡ true → (w < length ls) × (p (get_or ls w fresh) ≡ true)
flag_at p [] w e = clash e refl
flag_at p (l ∷ ls) zero e = (omega arith, e)
flag_at p (l ∷ ls) (suc w) e = let r = flag_at p ls w e in (omega arith, r.1)

-- under every rule
pub choice_finds : (R : Rule) (p : Line → Bool) (ls : List Line) → Finds p ls (choice_by R p ls)
choice_finds (by_key key) p ls = earliest_finds key p ls
choice_finds (by_tree t) p ls = go (choice_by (by_tree t) p ls) (choice_chooses flags t (levels (length ls)))
  where
    flags : ℕ → Bool
    flags w = get_or (map p ls) w false

    go : (v : Option ℕ) → Chooses flags (2 ^ levels (length ls)) v → Finds p ls v
    go None f = λ l m.
        let (i, h, e) = in_index ls fresh l m in
        ap p (sym e) ∙ sym (flag_is p ls i h) ∙ f i (omega (arith, levels_reach (length ls)))
    go (Some w) f = flag_at p ls w f.1

-- the victim is a candidate, and there is one if there is a candidate
pub victim_finds : (R : Rule) (S : Settings) (d : ℕ) (ways : List Line) → Finds (candidate (enough_dirty S d)) ways (victim R S d ways)
victim_finds R S d ways = go (last (λ l. candidate (enough_dirty S d) l && wholly_invalid l) ways) (last_finds (λ l. candidate (enough_dirty S d) l && wholly_invalid l) ways)
  where
    go : (v : Option ℕ) → Finds (λ l. candidate (enough_dirty S d) l && wholly_invalid l) ways v
        → Finds (candidate (enough_dirty S d)) ways (or_else v (choice_by R (candidate (enough_dirty S d)) ways))
    go None g = choice_finds R (candidate (enough_dirty S d)) ways
    go (Some w) g = (g.0, and_1 (candidate (enough_dirty S d) (get_or ways w fresh)) (wholly_invalid (get_or ways w fresh)) g.1)

-- ---- what the probe makes of the ways

-- the spot at a way that holds the block, and at one that is taken
module _ (x : Access) (ways : List Line) (w : ℕ) where
  abbrev pub met_spot : Spot
  met_spot = record {
    way = w;
    line = get_or ways w fresh;
    answer = answer_of x (get_or (get_or ways w fresh).sectors (sector_index (address_of x)) empty);
    backs = [];
  }

  abbrev pub over_spot : Spot
  over_spot = record {
    way = w;
    line = emptied (block_of (address_of x));
    answer = Miss;
    backs = write_back (get_or ways w fresh);
  }

module _ (R : Rule) (S : Settings) (d : ℕ) (ways : List Line) (x : Access) where
  abbrev way_found : Option ℕ
  way_found = first (holds (block_of (address_of x))) ways

  pub probe-place : (P : Place → Type 0) → ((w : ℕ) → way_found ≡ Some w → P (at (met_spot x ways w)))
      → (way_found ≡ None → (w : ℕ) → victim R S d ways ≡ Some w → P (at (over_spot x ways w)))
      → (victim R S d ways ≡ None → P (no (pick (any has_reserved ways) SetBusy SetHeld))) → P (probe R S d ways x)
  unfolding probe
  probe-place P met over none = go way_found refl
    where
      over-place : way_found ≡ None → (v : Option ℕ) → victim R S d ways ≡ v → P (take_over (address_of x) ways v)
      over-place f None e = none e
      over-place f (Some w) e = over f w e

      go : (v : Option ℕ) → way_found ≡ v → P (meet R S d ways x v)
      go None e = over-place e (victim R S d ways) refl
      go (Some w) e = met w e

  pub probe_by : (P : Spot → Type 0) → ((w : ℕ) → way_found ≡ Some w → P (met_spot x ways w))
      → (way_found ≡ None → (w : ℕ) → victim R S d ways ≡ Some w → P (over_spot x ways w)) → (p : Spot) → probe R S d ways x ≡ at p → P p
  probe_by P met over =
      probe-place (λ (q : Place). (p : Spot) → q ≡ at p → P p) (λ w f p e. subst P (cc) (met w f)) (λ f w v p e. subst P (cc) (over f w v))
      (λ v p e. let z : ◌≡◌ {A = ℕ} 0 1 = cc in absurd (omega arith))

-- no later way passes than the last found
abbrev pub Last : (Line → Bool) → List Line → Option ℕ → Type 0
Last p ls None = Unit {0}
Last p ls (Some w) = (v : ℕ) → w < v → v < length ls → p (get_or ls v fresh) ≡ false

last_more : (p : Line → Bool) (l : Line) (ls : List Line) (r : Option ℕ) → Finds p ls r → Last p ls r → (b : Bool)
    → Last p (l ∷ ls) (or_else (next r) (pick b (Some 0) None))
last_more p l ls None f g false = tt
last_more p l ls None f g true =
    by_suc (λ v. 0 < v → v < length (l ∷ ls) → p (get_or (l ∷ ls) v fresh) ≡ false) (λ h k. absurd (omega arith))
    (λ v h k. f (get_or ls v fresh) (in_get_or ls v fresh (omega arith)))
last_more p l ls (Some w) f g b =
    by_suc (λ v. suc w < v → v < length (l ∷ ls) → p (get_or (l ∷ ls) v fresh) ≡ false) (λ h k. absurd (omega arith)) (λ v h k. g v (omega arith) (omega arith))

pub last_is_last : (p : Line → Bool) (ls : List Line) → Last p ls (last p ls)
last_is_last p [] = tt
last_is_last p (l ∷ ls) = last_more p l ls (last p ls) (last_finds p ls) (last_is_last p ls) (p l)

-- no way that passes has a lesser key than the one found, and no lower way the same
abbrev Earliest : (Line → ℕ) → (Line → Bool) → List Line → ℕ → ℕ → Type 0
Earliest key p ls w v =
    v < length ls → p (get_or ls v fresh) ≡ true → (key (get_or ls w fresh) ≤ key (get_or ls v fresh)) × (v < w → key (get_or ls w fresh) < key (get_or ls v fresh))

abbrev pub Least : (Line → ℕ) → (Line → Bool) → List Line → Option ℕ → Type 0
Least key p ls None = Unit {0}
Least key p ls (Some w) = (v : ℕ) → Earliest key p ls w v

module _ (key : Line → ℕ) (p : Line → Bool) (l : Line) (ls : List Line) where
  least_next : p l ≡ false → (r : Option ℕ) → Least key p ls r → Least key p (l ∷ ls) (next r)
  least_next e None g = tt
  least_next e (Some w) g =
      by_suc (Earliest key p (l ∷ ls) (suc w)) (λ h k. clash k e) (λ v h k. let q = g v (omega arith) k in (q.0, λ z. q.1 (omega arith)))

  least_older : (r : Option ℕ) → Finds p ls r → Least key p ls r → Least key p (l ∷ ls) (older key ls (key l) r)
  least_older None f g =
      by_suc (Earliest key p (l ∷ ls) 0) (λ h k. (omega arith, λ z. absurd (omega arith)))
      (λ v h k. clash k (f (get_or ls v fresh) (in_get_or ls v fresh (omega arith))))
  least_older (Some w) f g =
      by_flag (Least key p (l ∷ ls)) (leb (key l) (key (get_or ls w fresh))) (Some 0) (Some (suc w))
      (λ e. by_suc (Earliest key p (l ∷ ls) 0) (λ h k. (omega arith, λ z. absurd (omega arith)))
      (λ v h k. let q = g v (omega arith) k in (omega (arith, q.0, leb-true (key l) (key (get_or ls w fresh)) e), λ z. absurd (omega arith))))
      (λ e. by_suc (Earliest key p (l ∷ ls) (suc w))
      (λ h k. let q : key (get_or ls w fresh) < key l = leb-false (key l) (key (get_or ls w fresh)) e in (omega arith, λ z. q))
      (λ v h k. let q = g v (omega arith) k in (q.0, λ z. q.1 (omega arith))))

pub earliest_is_least : (key : Line → ℕ) (p : Line → Bool) (ls : List Line) → Least key p ls (earliest key p ls)
earliest_is_least key p [] = tt
earliest_is_least key p (l ∷ ls) =
    by_flag (Least key p (l ∷ ls)) (p l) (older key ls (key l) (earliest key p ls)) (next (earliest key p ls))
    (λ e. least_older key p l ls (earliest key p ls) (earliest_finds key p ls) (earliest_is_least key p ls))
    (λ e. least_next key p l ls e (earliest key p ls) (earliest_is_least key p ls))

-- ---- ways as lines of the cache

pub record Sits (S : Settings) (ls : List Line) (a w : ℕ) : Type 0 where
  pub inside : line_number S a w < length ls
  pub low : w < S.ways
  pub line : get_or (ways_of S ls a) w fresh ≡ get_or ls (line_number S a w) fresh

pub way_line : (S : Settings) (ls : List Line) (a w : ℕ) → w < S.ways → get_or (ways_of S ls a) w fresh ≡ get_or ls (line_number S a w) fresh
way_line S ls a w h = get_or-take S.ways (drop (set_index S a * S.ways) ls) w fresh h ∙ get_or-drop (set_index S a * S.ways) ls w fresh

pub way_sits : (S : Settings) (ls : List Line) (a w : ℕ) → w < length (ways_of S ls a) → Sits S ls a w
way_sits S ls a w h =
    let n : ℕ = set_index S a * S.ways in
    let k : length (ways_of S ls a) ≡ min S.ways (length ls - n) = length-take S.ways (drop n ls) ∙ rw length-drop in
    let low : w < S.ways = omega arith in
    record { inside = omega arith; low = low; line = way_line S ls a w low }

pub way_in : (S : Settings) (ls : List Line) (a : ℕ) (l : Line) → In l (ways_of S ls a) → In l ls
way_in S ls a l m = in_drop (set_index S a * S.ways) ls l (in_take S.ways (drop (set_index S a * S.ways) ls) l m)

-- a line of the set stands among its ways
pub line_among : (S : Settings) (ls : List Line) (a j : ℕ) → 0 < S.ways → j < length ls → set_index S a ≡ j / S.ways
    → In (get_or ls j fresh) (ways_of S ls a)
line_among S ls a j z h e =
    let w : ℕ = j % S.ways in
    let n : ℕ = set_index S a * S.ways in
    let low : w < S.ways = mod-lt j z in
    let q : n + w ≡ j = ap (λ (c : ℕ). c * S.ways + w) e ∙ div-add-mod' j S.ways in
    let k : length (ways_of S ls a) ≡ min S.ways (length ls - n) = length-take S.ways (drop n ls) ∙ rw length-drop in
    let g : get_or (ways_of S ls a) w fresh ≡ get_or ls j fresh = way_line S ls a w low ∙ ap (λ (c : ℕ). get_or ls c fresh) q in
    subst (λ (l : Line). In l (ways_of S ls a)) g (in_get_or (ways_of S ls a) w fresh (omega arith))

pub set_of_line : (S : Settings) (a w : ℕ) → w < S.ways → line_number S a w / S.ways ≡ set_index S a
set_of_line S a w h = mul-add-div_right (omega arith) (set_index S a) w ∙ rw (div-eq_of_lt h) (add-zero (set_index S a))
