-- The check of a log: the numbers of a record by the tests that the code makes, the loop over the records, and what follows the last.
use Rattle.std.specs.Prelude.{None, Some}
use Rattle.words.proofs.General.{ℕ, zero, suc, ◌+◌, ◌-◌, ◌≤◌, ◌<◌, arith, ◌≡◌, refl, sym, ◌∙◌, ⊎_elim, Bool, true, false, not, List, [], ◌∷◌, length, get_or, le-ltb, lt-ltb, le-leb}
use Rattle.words.proofs.General.{lt-leb, not-true, not-false, pick, lt_or_ge}
use Rattle.model.proofs.Terms.{length_of}
use Rattle.comparing.specs.declared.Wrong.{Wrong}
use Rattle.comparing.specs.declared.Wrong.TheVariants as wrong
use Rattle.comparing.specs.Kinds.{starts_group, is_event}
use Rattle.comparing.specs.Groups.{record_end, record_past}
use Rattle.comparing.specs.Checks.{fine, fault, wrong_at, scanned_from, scanned, checked}
use Rattle.comparing.proofs.Walks.{past_more}

module _ (s : List ℕ) (at : ℕ) {t : Bool} (p : t ≡ is_event (get_or s at 0)) where
  pub wrong_kind : not t ≡ true → Some wrong.UnknownKind ≡ wrong_at s at
  unfolding wrong_at
  wrong_kind q = rw (sym p ∙ not-true t q)

  pub wrong_none : {n : ℕ} → at < length s → not t ≡ false → n ≡ length_of (get_or s at 0) → n < length s - at → None ≡ wrong_at s at
  unfolding wrong_at record_end
  wrong_none {n} h q e l = rw (sym p ∙ not-false t q, ← e, le-leb (at + 1 + n) (length s) (omega arith))

  pub wrong_cut : {n : ℕ} → at < length s → not t ≡ false → n ≡ length_of (get_or s at 0) → length s - at ≤ n → Some wrong.CutShort ≡ wrong_at s at
  unfolding wrong_at record_end
  wrong_cut {n} h q e l = rw (sym p ∙ not-false t q, ← e, lt-leb (at + 1 + n) (length s) (omega arith))

module _ (s : List ℕ) where
  scan_steps : (d e at : ℕ) → length s ≤ at + d → length s ≤ at + e → scanned_from d s at ≡ scanned_from e s at
  unfolding scanned_from
  scan_steps zero zero at h k = refl
  scan_steps zero (suc e) at h k = rw (le-ltb at (length s) (omega arith))
  scan_steps (suc d) zero at h k = rw (le-ltb at (length s) (omega arith))
  scan_steps (suc d) (suc e) at h k =
      ⊎_elim
      (λ l. let w = past_more s at l in rw (lt-ltb at (length s) l, scan_steps d e (record_past s at) (omega arith) (omega arith)))
      (λ l. rw (le-ltb at (length s) l))
      (lt_or_ge at (length s))

  -- the loop over the records
  abbrev pub Scans : ℕ → Type 0
  Scans at = scanned s ≡ scanned_from (length s - at) s at

  pub scans_start : Scans 0
  unfolding scanned
  scans_start = let e : length s - 0 ≡ length s = omega arith in rw e

  pub scans_wrong : (at : ℕ) {w : Wrong} → at < length s → Some w ≡ wrong_at s at → Scans at → fault w at ≡ scanned s
  unfolding scanned_from
  scans_wrong at {w} h e f =
      let k : length s - at ≡ suc (length s - (at + 1)) = omega arith in
      sym (f ∙ rw (k, lt-ltb at (length s) h, ← e))

  pub scans_more : (at : ℕ) → at < length s → None ≡ wrong_at s at → {m : ℕ} → m ≡ record_past s at → Scans at → Scans m
  unfolding scanned_from
  scans_more at h e {m} p w =
      let v = past_more s at h in
      let k : length s - at ≡ suc (length s - (at + 1)) = omega arith in
      w ∙ rw (k, lt-ltb at (length s) h, ← e, p) (scan_steps (length s - (at + 1)) (length s - record_past s at) (record_past s at) (omega arith) (omega arith))

  pub scans_over : (at : ℕ) → length s ≤ at → Scans at → fine ≡ scanned s
  unfolding scanned_from
  scans_over at h w = let k : length s - at ≡ 0 = omega arith in sym (w ∙ rw k)

-- ---- after the last record

pub checked_empty : (s : List ℕ) → fine ≡ scanned s → length s ≡ 0 → fine ≡ checked s
unfolding checked
checked_empty [] p h = rw (← p)
checked_empty (k ∷ s) p h = absurd (omega arith)

-- where the first record starts a group, and where it does not
pub checked_first : (b : Bool) (s : List ℕ) → fine ≡ scanned s → (length s ≡ 0 → ⊥) → {t : Bool} → t ≡ starts_group (get_or s 0 0) → t ≡ b
    → pick b fine (fault wrong.InsideGroup 0) ≡ checked s
unfolding checked
checked_first b [] p h e g = absurd (h refl)
checked_first b (k ∷ s) p h e g = rw (← p, sym e ∙ g)
