-- The groups of a log one behind the other: the side of a number begins where the groups before it end.
use Rattle.words.proofs.General.{ℕ, zero, suc, ◌+◌, ◌-◌, ◌≤◌, ◌<◌, add-one, arith, ◌≡◌, refl, sym, ap, ◌∙◌, ⊎_elim, List, length, get_or, lt-ltb, le-ltb, lt_or_ge}
use Rattle.comparing.specs.declared.Part.{Part}
use Rattle.comparing.specs.Groups.{group_end, part_to, groups_from, groups, group_side}
use Rattle.comparing.proofs.Walks.{group_end_lem, group_none}

-- n groups further
unfoldable pub place_from : ℕ → List ℕ → ℕ → ℕ
place_from zero s at = at
place_from (suc n) s at = place_from n s (group_end s at)

module _ (s : List ℕ) where
  abbrev pub at_end : Part
  at_end = record { place = length s; size = 0 }

  pub stay : (n at : ℕ) → length s ≤ at → place_from n s at ≡ at
  unfolding place_from
  stay zero at h = refl
  stay (suc n) at h = rw (group_none s at h) (stay n at h)

  pub place-next : (n at : ℕ) → place_from (suc n) s at ≡ group_end s (place_from n s at)
  unfolding place_from
  place-next zero at = refl
  place-next (suc n) at = place-next n (group_end s at)

  pub group_within : (at : ℕ) → at ≤ length s → (at ≤ group_end s at) × (group_end s at ≤ length s)
  group_within at h = ⊎_elim (λ l. let w = group_end_lem s at l in omega arith) (λ l. let w = group_none s at l in omega arith) (lt_or_ge at (length s))

  -- a group is a byte or more
  pub place_grows : (n at : ℕ) → place_from n s at < length s → at + n ≤ place_from n s at
  unfolding place_from
  place_grows zero at h = omega arith
  place_grows (suc n) at h =
      let ih = place_grows n (group_end s at) h in
      ⊎_elim
      (λ l. let w = group_end_lem s at l in omega arith)
      (λ l. let e : place_from n s (group_end s at) ≡ at = rw (group_none s at l) (stay n at l) in omega arith)
      (lt_or_ge at (length s))

  pub group_on : (at : ℕ) {e : ℕ} → e ≡ group_end s at → at ≤ e
  group_on at p = ⊎_elim (λ l. let w = group_end_lem s at l in omega arith) (λ l. let w = group_none s at l in omega arith) (lt_or_ge at (length s))

  -- ---- by number

  over : (m at : ℕ) → at ≤ length s → length s ≤ at → at_end ≡ part_to (place_from m s at) (group_end s (place_from m s at))
  over m at h l =
      let e : at ≡ length s = omega arith in
      let z : length s - length s ≡ 0 = omega arith in
      rw (stay m at l, group_none s at l, e, z)

  side_from : (d n at : ℕ) → at ≤ length s → length s ≤ at + d → get_or (groups_from d s at) n at_end ≡ part_to (place_from n s at) (group_end s (place_from n s at))
  unfolding groups_from place_from
  side_from zero n at h k = over n at h (omega arith)
  side_from (suc d) zero at h k = ⊎_elim (λ l. rw (lt-ltb at (length s) l)) (λ l. rw (le-ltb at (length s) l) (over zero at h l)) (lt_or_ge at (length s))
  side_from (suc d) (suc n) at h k =
      ⊎_elim
      (λ l. let w = group_end_lem s at l in rw (lt-ltb at (length s) l) (side_from d n (group_end s at) w.1 (omega arith)))
      (λ l. rw (le-ltb at (length s) l) (over (suc n) at h l))
      (lt_or_ge at (length s))

  pub side_is : (n : ℕ) → group_side s n ≡ part_to (place_from n s 0) (group_end s (place_from n s 0))
  unfolding group_side groups
  side_is n = side_from (length s) n 0 (omega arith) (omega arith)

  -- a number is below that of the groups exactly if its place lies within the log
  counted : (d n at : ℕ) → length s ≤ at + d → (place_from n s at < length s → n < length (groups_from d s at)) × (length s ≤ place_from n s at → length (groups_from d s at) ≤ n)
  unfolding groups_from place_from
  counted zero n at k = let e = stay n at (omega arith) in (λ p. absurd (omega arith), λ p. omega arith)
  counted (suc d) zero at k = (λ p. rw (lt-ltb at (length s) p) (omega arith), λ p. rw (le-ltb at (length s) p) (omega arith))
  counted (suc d) (suc n) at k =
      ⊎_elim
      (λ l.
      let w = group_end_lem s at l in
      let i = counted d n (group_end s at) (omega arith) in
      rw (lt-ltb at (length s) l) (λ p. omega (arith, i.0 p), λ p. omega (arith, i.1 p)))
      (λ l. let e = stay (suc n) at l in rw (le-ltb at (length s) l) (λ p. absurd (omega arith), λ p. omega arith))
      (lt_or_ge at (length s))

  pub counted_out : (n : ℕ) → length s ≤ place_from n s 0 → length (groups s) ≤ n
  unfolding groups
  counted_out n p = (counted (length s) n 0 (omega arith)).1 p

  -- ---- by the place where the group of number n begins

  module _ (n : ℕ) {x : ℕ} (g : x ≡ (group_side s n).place) where
    pub begins-at : x ≡ place_from n s 0
    begins-at = g ∙ ap (λ p. p.place) (side_is n)

    pub side-to : group_side s n ≡ part_to x (group_end s x)
    side-to = side_is n ∙ rw begins-at

    pub next-begins : group_end s x ≡ (group_side s (n + 1)).place
    next-begins = rw (side_is (n + 1), add-one n, place-next n 0, begins-at)

    -- the number is below that of the groups, and below the log's length
    pub counted-in : x < length s → (n < length (groups s)) × (n < length s)
    unfolding groups
    counted-in h = let k : place_from n s 0 < length s = rw begins-at at h in ((counted (length s) n 0 (omega arith)).0 k, omega (arith, place_grows n 0 k))

    pub counted-over : length s ≤ x → length (groups s) ≤ n
    counted-over h = counted_out n (rw begins-at at h)

  -- ---- the loop that skips groups: those still to skip, behind the first i, lead to the side of the number

  abbrev pub Skips : ℕ → ℕ → ℕ → Type 0
  Skips number at i = (at ≤ length s) × (place_from (number - i) s at ≡ (group_side s number).place)

  pub skips_start : (number : ℕ) → Skips number 0 0
  skips_start number = let z : number - 0 ≡ number = omega arith in (omega arith, rw z (ap (λ p. p.place) (sym (side_is number))))

  pub skips_out : (number at i : ℕ) → length s ≤ at → Skips number at i → at ≡ (group_side s number).place
  skips_out number at i h w = sym (stay (number - i) at h) ∙ w.1

  pub skips_more : (number at i : ℕ) → i < number → {e : ℕ} → e ≡ group_end s at → Skips number at i → Skips number e (i + 1)
  unfolding place_from
  skips_more number at i h {e} p w =
      let k : number - i ≡ suc (number - (i + 1)) = omega arith in
      (omega (arith, group_within at w.0), rw p (let u : place_from (suc (number - (i + 1))) s at ≡ (group_side s number).place = rw k at w.1 in u))

  pub skips_over : (number at i : ℕ) → number ≤ i → Skips number at i → at ≡ (group_side s number).place
  unfolding place_from
  skips_over number at i h w = let k : number - i ≡ 0 = omega arith in rw k at w.1
