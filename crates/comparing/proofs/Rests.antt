-- What is left of a group in the bytes to come: its next record, and then the rest; what a front of those bytes shows of it.
use Rattle.std.specs.Prelude.{Option, None, Some}
use Rattle.words.proofs.General.{ℕ, zero, suc, ◌+◌, ◌-◌, ◌≤◌, ◌<◌, pos_of_ne-zero, arith, ◌≡◌, refl, sym, ap, ◌∙◌, ⊎_elim, Bool, true, false, ◌&&◌, ◌||◌, and_assoc, List, [], ◌∷◌}
use Rattle.words.proofs.General.{◌++◌, length, get_or, take, drop, length-append, length-drop, take-append-drop, List·getD-append, length-take-le, take-add, get_or-take, eqb, leb, ltb}
use Rattle.words.proofs.General.{lt-ltb, eqb-true, eqb-false, eq-eqb, ne_eqb, leb-true, leb-false, pick, flag, by_flag, no-yes, clash, and_1, or_cases, or_no_1, or_no_2}
use Rattle.model.proofs.Terms.{length_of}
use Rattle.comparing.specs.Kinds.{starts_group}
use Rattle.comparing.specs.Groups.{record_end, record_past, end_from, group_end}
use Rattle.comparing.specs.Pairs.{same_bytes}
use Rattle.comparing.specs.Steps.{record_of, ahead, Front}
use Rattle.comparing.proofs.Walks.{past_more, end_steps, end_bounds, group_none, end_shift, group_shift}
use Rattle.comparing.proofs.Sides.{group_within}
use Rattle.comparing.proofs.Bytes.{same_equal, same-lengths}

-- ---- a log from a place on

module _ (s : List ℕ) (m : ℕ) (h : m ≤ length s) where
  front_long : length (take m s) + 0 ≡ m
  front_long = omega (arith, length-take-le m s h)

  end_drop : (d : ℕ) → end_from d s m ≡ m + end_from d (drop m s) 0
  end_drop d = rw (take-append-drop m s, front_long, length-take-le m s h) at (end_shift (take m s) (drop m s) d 0)

  pub group_drop : group_end s m ≡ m + group_end (drop m s) 0
  group_drop = rw (take-append-drop m s, front_long, length-take-le m s h) at (group_shift (take m s) (drop m s) 0)

-- ---- the rest of a group that has begun, or all of the next one

unfoldable pub group_rest : Bool → List ℕ → ℕ
group_rest true s = end_from (length s) s 0
group_rest false s = group_end s 0

-- whether the group has begun behind a record of m bytes
abbrev pub begun_after : Bool → ℕ → Bool
begun_after begun m = pick (eqb m 0) begun true

-- the next record has m bytes; 0 where the group is over
pub record Coming (begun : Bool) (s : List ℕ) (m : ℕ) : Type 0 where
  pub fits : m ≤ length s
  pub size : group_rest begun s ≡ m + group_rest (begun_after begun m) (drop m s)
  pub none : m ≡ 0 → (group_rest begun s ≡ 0) × (begun ≡ false → length s ≡ 0)
  pub some : 0 < m → m ≡ record_past s 0

start_ends : (n : ℕ) (s : List ℕ) → starts_group (get_or s 0 0) ≡ true → end_from n s 0 ≡ 0
unfolding end_from
start_ends zero s q = refl
start_ends (suc n) s q = ⊎_elim (λ (t : ltb 0 (length s) ≡ true). rw (q, t)) (λ (t : ltb 0 (length s) ≡ false). rw (q, t)) (flag (ltb 0 (length s)))

end_once : (n : ℕ) (s : List ℕ) → 0 < length s → starts_group (get_or s 0 0) ≡ false → end_from (suc n) s 0 ≡ end_from n s (record_past s 0)
unfolding end_from
end_once n s h q = rw (lt-ltb 0 (length s) h, q)

module _ (s : List ℕ) where
  pub rest_within : (begun : Bool) → group_rest begun s ≤ length s
  unfolding group_rest
  rest_within true = (end_bounds s (length s) 0 (omega arith)).1
  rest_within false = (group_within s 0 (omega arith)).1

  none_left : (begun : Bool) → length s ≡ 0 → group_rest begun s ≡ 0
  unfolding group_rest end_from
  none_left true e = rw e
  none_left false e = group_none s 0 (omega arith)

  over_next_lem : (begun : Bool) → (begun && starts_group (get_or s 0 0)) ≡ true → group_rest begun s ≡ 0
  unfolding group_rest
  over_next_lem true q = start_ends (length s) s q
  over_next_lem false q = clash q refl

  module _ (h : 0 < length s) where
    past-on : (d : ℕ) → length s ≤ record_past s 0 + d → end_from d s (record_past s 0) ≡ record_past s 0 + group_rest true (drop (record_past s 0) s)
    unfolding group_rest
    past-on d k =
        let w = past_more s 0 h in
        let l = length-drop (record_past s 0) s in
        end_steps s d (length (drop (record_past s 0) s)) (record_past s 0) k (omega arith) ∙ end_drop s (record_past s 0) w.1 (length (drop (record_past s 0) s))

    rest-record : (begun : Bool) → (begun && starts_group (get_or s 0 0)) ≡ false → group_rest begun s ≡ record_past s 0 + group_rest true (drop (record_past s 0) s)
    unfolding group_rest group_end
    rest-record true q =
        let w = past_more s 0 h in
        let e : length s ≡ suc (length s - 1) = omega arith in
        ap (λ n. end_from n s 0) e ∙ end_once (length s - 1) s h q ∙ past-on (length s - 1) (omega arith)
    rest-record false q = rw (lt-ltb 0 (length s) h) (past-on (length s) (omega arith))

  pub coming : (begun : Bool) → Coming begun s (record_of begun s)
  coming begun = go (eqb (length s) 0) refl (begun && starts_group (get_or s 0 0)) refl
    where
      over : group_rest begun s ≡ 0 → (begun ≡ false → length s ≡ 0) → Coming begun s 0
      over e f =
          record {
            fits = omega arith;
            size = let z : group_rest begun s ≡ 0 + group_rest begun s = omega arith in z;
            none = λ z. (e, f);
            some = λ l. absurd (omega arith);
          }

      go : (t : Bool) → eqb (length s) 0 ≡ t → (u : Bool) → (begun && starts_group (get_or s 0 0)) ≡ u → Coming begun s (pick (t || u) 0 (record_past s 0))
      go true q u r = let z = eqb-true (length s) 0 q in over (none_left begun z) (λ e. z)
      go false q true r = over (over_next_lem begun r) (λ e. clash (and_1 begun (starts_group (get_or s 0 0)) r) e)
      go false q false r =
          let z = eqb-false (length s) 0 q in
          let h : 0 < length s = pos_of_ne-zero z in
          let w = past_more s 0 h in
          record {
            fits = w.1;
            size = rw (ne_eqb (record_past s 0) 0 (λ e. omega arith)) (rest-record h begun r);
            none = λ e. absurd (omega arith);
            some = λ l. refl;
          }

-- ---- what a front shows

module _ (begun : Bool) {s a : List ℕ} {whole : Bool} (f : Front s a whole) where
  long : length s ≡ length a + length f.behind
  long = ap length f.joins ∙ length-append a f.behind

  none-behind : whole ≡ true → length f.behind ≡ 0
  none-behind w = ap length (f.all w)

  first_byte : (length a ≡ 0 → ⊥) → get_or s 0 0 ≡ get_or a 0 0
  first_byte h = ap (λ l. get_or l 0 0) f.joins ∙ List·getD-append a f.behind 0 0 (pos_of_ne-zero h)

  -- a record is shown only whole, or with the log's end; what is not shown does not stand whole in the front
  abbrev pub AheadShown : Option ℕ → Type 0
  AheadShown (Some m) = (record_of begun s ≡ m) × (m ≤ length a)
  AheadShown None = (whole ≡ false) × (length a < record_end a 0)

  nothing_whole : length a ≡ 0 → length a < record_end a 0
  unfolding record_end
  nothing_whole z = omega arith

  module _ (h : length a ≡ 0 → ⊥) where
    not-empty : eqb (length s) 0 ≡ false
    not-empty = ne_eqb (length s) 0 (λ e. let k = long in h (omega arith))

    same-past : (whole || leb (record_end a 0) (length a)) ≡ true → record_past s 0 ≡ record_past a 0
    unfolding record_past record_end
    same-past q =
        rw (first_byte h)
        (⊎_elim
        (λ e. omega (arith, long, none-behind e))
        (λ l. omega (arith, long, leb-true (0 + 1 + length_of (get_or a 0 0)) (length a) l))
        (or_cases whole (leb (0 + 1 + length_of (get_or a 0 0)) (length a)) q))

  pub ahead_shown : AheadShown (ahead begun a whole)
  unfolding ahead
  ahead_shown =
      by_flag AheadShown (eqb (length a) 0) _ _
      (λ z.
      by_flag AheadShown whole _ _
      (λ e. (rw (eq-eqb (length s) 0 (omega (arith, long, none-behind e, eqb-true (length a) 0 z))), omega arith))
      (λ e. (e, nothing_whole (eqb-true (length a) 0 z))))
      (λ z.
      let h = eqb-false (length a) 0 z in
      by_flag AheadShown (begun && starts_group (get_or a 0 0)) _ _
      (λ r. (rw (not-empty h, first_byte h, r), omega arith))
      (λ r.
      by_flag AheadShown (whole || leb (record_end a 0) (length a)) _ _
      (λ q. (rw (not-empty h, first_byte h, r) (same-past h q), (past_more a 0 (pos_of_ne-zero h)).1))
      (λ q. (or_no_1 whole (leb (record_end a 0) (length a)) q, leb-false (record_end a 0) (length a) (or_no_2 whole (leb (record_end a 0) (length a)) q)))))

-- ---- two groups are the same where their next records are, and the rest

bytes-append : (x y u v : List ℕ) → length x ≡ length y → same_bytes (x ++ u) (y ++ v) ≡ (same_bytes x y && same_bytes u v)
bytes-append [] [] u v e = refl
bytes-append [] (b ∷ y) u v e = absurd (omega arith)
bytes-append (a ∷ x) [] u v e = absurd (omega arith)
bytes-append (a ∷ x) (b ∷ y) u v e = rw (bytes-append x y u v (omega arith)) (sym (and_assoc (eqb a b) (same_bytes x y) (same_bytes u v)))

module _ {b c : Bool} {s t : List ℕ} {m n : ℕ} (p : Coming b s m) (q : Coming c t n) where
  -- lists of the same bytes begin with the same kind, so their records are of the same length
  no_split : (m ≡ n → ⊥) → take (group_rest b s) s ≡ take (group_rest c t) t → ⊥
  unfolding record_past record_end
  no_split h e = by_zero m refl n refl
    where
      lengths : group_rest b s ≡ group_rest c t
      lengths = sym (length-take-le (group_rest b s) s (rest_within s b)) ∙ ap length e ∙ length-take-le (group_rest c t) t (rest_within t c)

      kinds : 0 < group_rest b s → get_or s 0 0 ≡ get_or t 0 0
      kinds l = let k = lengths in sym (get_or-take (group_rest b s) s 0 0 l) ∙ ap (λ x. get_or x 0 0) e ∙ get_or-take (group_rest c t) t 0 0 (omega arith)

      by_zero : (i : ℕ) → m ≡ i → (j : ℕ) → n ≡ j → ⊥
      by_zero zero f j g = let x = p.none f in let l = lengths in let y = q.size in h (omega arith)
      by_zero (suc i) f zero g = let x = q.none g in let l = lengths in let y = p.size in h (omega arith)
      by_zero (suc i) f (suc j) g = h (omega (arith, rest_within s b, rest_within t c, lengths, p.some (omega arith), q.some (omega arith), ap length_of (kinds (omega arith))))

  pub same_split : same_bytes (take (group_rest b s) s) (take (group_rest c t) t) ≡ (same_bytes (take m s) (take n t) && same_bytes (take (group_rest (begun_after b m) (drop m s)) (drop m s)) (take (group_rest (begun_after c n) (drop n t)) (drop n t)))
  same_split =
      let i = length-take-le m s p.fits in
      let j = length-take-le n t q.fits in
      ⊎_elim
      (λ e.
      let h = eqb-true m n e in
      rw (p.size, q.size, take-add m (group_rest (begun_after b m) (drop m s)) s, take-add n (group_rest (begun_after c n) (drop n t)) t)
      (bytes-append (take m s) (take n t) (take (group_rest (begun_after b m) (drop m s)) (drop m s)) (take (group_rest (begun_after c n) (drop n t)) (drop n t)) (omega arith)))
      (λ e.
      let h = eqb-false m n e in
      no-yes (λ z. no_split h (same_equal (take (group_rest b s) s) (take (group_rest c t) t) z)) ∙ rw (← (same-lengths (take m s) (take n t) (λ e. h (omega arith)))))
      (flag (eqb m n))
