-- A line's tests by its four status bytes are the tests of Tables on the line read off the slices.
use Rattle.words.proofs.General.{ℕ, zero, suc, ◌+◌, ◌*◌, arith, ◌≡◌, refl, sym, ap, ◌∙◌, Bool, true, false, not, ◌&&◌, ◌||◌, and_comm, List, eqb, ltb, eqb-true, ne_eqb, lt-ltb}
use Rattle.words.proofs.General.{any, and_four, or_four, by_flag, pick_both}
use Rattle.model.proofs.Terms.{status_of, Line, is_invalid, is_reserved, is_modified, wholly_invalid, has_reserved, dirty, holds, status_at, tag_at, line_at, sectors_at}
use Rattle.model.specs.declared.Status.{Status}
use Rattle.tables.specs.Raw.{unused_at, holds_at, waiting_at, dirty_at}
use Rattle.model.specs.declared.Settings.{Settings}

-- ---- one byte

invalid_byte : (k : ℕ) → is_invalid (status_of k) ≡ eqb k 0
invalid_byte k =
    by_flag (λ (s : Status). is_invalid s ≡ eqb k 0) (eqb k 0) _ _ (λ e. sym e)
    (λ e. pick_both (λ (s : Status). is_invalid s ≡ eqb k 0) (eqb k 1) (sym e) (pick_both (λ (s : Status). is_invalid s ≡ eqb k 0) (eqb k 2) (sym e) (sym e)))

reserved_byte : (k : ℕ) → is_reserved (status_of k) ≡ eqb k 1
reserved_byte k =
    by_flag (λ (s : Status). is_reserved s ≡ eqb k 1) (eqb k 0) _ _ (λ e. let h : k ≡ 0 = eqb-true k 0 e in sym (ne_eqb k 1 (λ q. omega arith)))
    (λ e. by_flag (λ (s : Status). is_reserved s ≡ eqb k 1) (eqb k 1) _ _ (λ f. sym f) (λ f. pick_both (λ (s : Status). is_reserved s ≡ eqb k 1) (eqb k 2) (sym f) (sym f)))

modified_byte : (k : ℕ) → is_modified (status_of k) ≡ ltb 2 k
modified_byte zero = refl
modified_byte (suc zero) = refl
modified_byte (suc (suc zero)) = refl
modified_byte (suc (suc (suc k))) =
    rw (ne_eqb (suc (suc (suc k))) 0 (λ q. omega arith), ne_eqb (suc (suc (suc k))) 1 (λ q. omega arith), ne_eqb (suc (suc (suc k))) 2 (λ q. omega arith), lt-ltb 2 (suc (suc (suc k))) (omega arith))

-- ---- four

all_four_lem : {a b c d e f g h : Bool} → a ≡ e → b ≡ f → c ≡ g → d ≡ h → (a && (b && (c && (d && true)))) ≡ (e && f && g && h)
all_four_lem {e} {f} {g} {h} i j k l = rw (i, j, k, l) (and_four e f g h)

any_four : {a b c d e f g h : Bool} → a ≡ e → b ≡ f → c ≡ g → d ≡ h → (a || (b || (c || (d || false)))) ≡ (e || f || g || h)
any_four {e} {f} {g} {h} i j k l = rw (i, j, k, l) (or_four e f g h)

-- ---- line l of n

module _ (S : Settings) (longs words marks : List ℕ) (l : ℕ) where
  pub unused_bytes : wholly_invalid (line_at S longs words marks l) ≡ unused_at marks l
  unused_bytes = all_four_lem (invalid_byte (status_at marks (4 * l))) (invalid_byte (status_at marks (4 * l + 1))) (invalid_byte (status_at marks (4 * l + 2))) (invalid_byte (status_at marks (4 * l + 3)))

  pub waiting_bytes : has_reserved (line_at S longs words marks l) ≡ waiting_at marks l
  waiting_bytes = any_four (reserved_byte (status_at marks (4 * l))) (reserved_byte (status_at marks (4 * l + 1))) (reserved_byte (status_at marks (4 * l + 2))) (reserved_byte (status_at marks (4 * l + 3)))

  pub dirty-bytes : dirty (line_at S longs words marks l) ≡ dirty_at marks l
  dirty-bytes = any_four (modified_byte (status_at marks (4 * l))) (modified_byte (status_at marks (4 * l + 1))) (modified_byte (status_at marks (4 * l + 2))) (modified_byte (status_at marks (4 * l + 3)))

  -- so of any line with the sectors that stand there
  pub dirty_of : (y : Line) → sectors_at S words marks l ≡ y.sectors → dirty_at marks l ≡ dirty y
  dirty_of y e = sym dirty-bytes ∙ ap (any (λ s. is_modified s.status)) e

  pub holds-bytes : (b : ℕ) → holds b (line_at S longs words marks l) ≡ holds_at longs marks b l
  holds-bytes b = and_comm (not (wholly_invalid (line_at S longs words marks l))) (eqb (tag_at longs l) b) ∙ ap (λ (u : Bool). eqb (tag_at longs l) b && not u) unused_bytes
