-- The steps over a log: a record is a byte or more, how many steps are allowed does not matter once they are enough, and a log behind
-- other bytes has its records and groups at places that much higher.
use Rattle.words.proofs.General.{ℕ, zero, suc, ◌+◌, ◌-◌, ◌≤◌, ◌<◌, arith, ◌≡◌, refl, sym, ◌∙◌, ⊎_elim, Bool, true, false, List, ◌++◌, length, get_or, length-append, get_or-append-add}
use Rattle.words.proofs.General.{ltb, le-ltb, lt-ltb, ltb-true, flag, iff, by_flag, lt_or_ge}
use Rattle.comparing.specs.Kinds.{starts_group}
use Rattle.comparing.specs.Groups.{record_end, record_past, end_from, group_end}

module _ (s : List ℕ) where
  pub past_more : (at : ℕ) → at < length s → (at < record_past s at) × (record_past s at ≤ length s)
  unfolding record_past record_end
  past_more at h = (omega arith, omega arith)

  pub past_less : (at : ℕ) → at < length s → {e : ℕ} → e ≡ record_past s at → length s - e < length s - at
  past_less at h p = omega (arith, past_more at h)

  -- ---- the end of a group

  pub end_steps : (d e at : ℕ) → length s ≤ at + d → length s ≤ at + e → end_from d s at ≡ end_from e s at
  unfolding end_from
  end_steps zero zero at h k = refl
  end_steps zero (suc e) at h k = rw (le-ltb at (length s) (omega arith))
  end_steps (suc d) zero at h k = rw (le-ltb at (length s) (omega arith))
  end_steps (suc d) (suc e) at h k =
      ⊎_elim
      (λ l. let w = past_more at l in rw (lt-ltb at (length s) l, end_steps d e (record_past s at) (omega arith) (omega arith)))
      (λ l. rw (le-ltb at (length s) l))
      (lt_or_ge at (length s))

  pub end_bounds : (n at : ℕ) → at ≤ length s → (at ≤ end_from n s at) × (end_from n s at ≤ length s)
  unfolding end_from
  end_bounds zero at h = (omega arith, h)
  end_bounds (suc n) at h =
      ⊎_elim
      (λ l.
      let w = past_more at l in
      let v = end_bounds n (record_past s at) w.1 in
      rw (lt-ltb at (length s) l) (by_flag (λ x. (at ≤ x) × (x ≤ length s)) (starts_group (get_or s at 0)) at (end_from n s (record_past s at)) (λ u. omega arith) (λ u. omega arith)))
      (λ l. rw (le-ltb at (length s) l) (omega arith))
      (lt_or_ge at (length s))

  pub group_end_lem : (at : ℕ) → at < length s → (at < group_end s at) × (group_end s at ≤ length s)
  unfolding group_end
  group_end_lem at h =
      let w = past_more at h in
      let v = end_bounds (length s) (record_past s at) w.1 in
      rw (lt-ltb at (length s) h) (omega arith, omega arith)

  pub group_none : (at : ℕ) → length s ≤ at → group_end s at ≡ at
  unfolding group_end
  group_none at h = rw (le-ltb at (length s) h)

  -- the loop to the end of a group
  abbrev pub Ends : ℕ → ℕ → Type 0
  Ends at end = (group_end s at ≡ end_from (length s - end) s end) × (end ≤ length s)

  pub ends_start : (at : ℕ) → at < length s → {e : ℕ} → e ≡ record_past s at → Ends at e
  unfolding group_end
  ends_start at h {e} p =
      let w = past_more at h in
      (rw (lt-ltb at (length s) h, p) (end_steps (length s) (length s - record_past s at) (record_past s at) (omega arith) (omega arith)), omega arith)

  pub ends_here : (at end : ℕ) → end < length s → {t : Bool} → t ≡ starts_group (get_or s end 0) → t ≡ true → Ends at end → end ≡ group_end s at
  unfolding end_from
  ends_here at end h p q w =
      let k : length s - end ≡ suc (length s - (end + 1)) = omega arith in
      sym (w.0 ∙ rw (k, lt-ltb end (length s) h, sym p ∙ q))

  pub ends_more : (at end : ℕ) → end < length s → {t : Bool} → t ≡ starts_group (get_or s end 0) → t ≡ false → {e : ℕ} → e ≡ record_past s end → Ends at end → Ends at e
  unfolding end_from
  ends_more at end h r q {e} p w =
      let v = past_more end h in
      let k : length s - end ≡ suc (length s - (end + 1)) = omega arith in
      (w.0 ∙ rw (k, lt-ltb end (length s) h, sym r ∙ q, p) (end_steps (length s - (end + 1)) (length s - record_past s end) (record_past s end) (omega arith) (omega arith)), omega arith)

  pub ends_over : (at end : ℕ) → length s ≤ end → Ends at end → end ≡ group_end s at
  unfolding end_from
  ends_over at end h w = let k : length s - end ≡ 0 = omega arith in sym (w.0 ∙ rw k)

-- ---- a log behind other bytes: its records and groups stand as before, at places that much higher

module _ (r s : List ℕ) where
  pub past_shift : (x : ℕ) → record_past (r ++ s) (length r + x) ≡ length r + record_past s x
  unfolding record_past record_end
  past_shift x = let k = length-append r s in rw (get_or-append-add r s x 0) (omega arith)

  pub shift_test : (x : ℕ) → ltb (length r + x) (length (r ++ s)) ≡ ltb x (length s)
  shift_test x =
      let k = length-append r s in
      iff
      (λ h. let l = ltb-true (length r + x) (length (r ++ s)) h in lt-ltb x (length s) (omega arith))
      (λ h. let l = ltb-true x (length s) h in lt-ltb (length r + x) (length (r ++ s)) (omega arith))

  pub end_shift : (n x : ℕ) → end_from n (r ++ s) (length r + x) ≡ length r + end_from n s x
  unfolding end_from
  end_shift zero x = refl
  end_shift (suc n) x =
      rw (shift_test x, get_or-append-add r s x 0, past_shift x, end_shift n (record_past s x))
      (⊎_elim (λ t. rw t (⊎_elim (λ u. rw u) (λ u. rw u) (flag (starts_group (get_or s x 0))))) (λ t. rw t) (flag (ltb x (length s))))

  pub group_shift : (x : ℕ) → group_end (r ++ s) (length r + x) ≡ length r + group_end s x
  unfolding group_end
  group_shift x =
      let k = length-append r s in
      rw (shift_test x, past_shift x, end_shift (length (r ++ s)) (record_past s x))
      (⊎_elim (λ t. rw (t, end_steps s (length (r ++ s)) (length s) (record_past s x) (omega arith) (omega arith))) (λ t. rw t) (flag (ltb x (length s))))
