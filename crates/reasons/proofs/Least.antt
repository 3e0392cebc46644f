-- The dirty lines that are missing are enough, and fewer are not.
use Rattle.words.proofs.General.{ℕ, ◌+◌, ◌*◌, ◌<◌, arith, ◌≡◌, true, false, le-leb, lt-leb}
use Rattle.model.proofs.Terms.{lines_of, enough_dirty}
use Rattle.model.specs.declared.Settings.{Settings}
use Rattle.reasons.specs.Reasons.{missing_lines}

module _ (S : Settings) (d : ℕ) where
  pub missing_enough : enough_dirty S (d + missing_lines S.dirty (lines_of S) d) ≡ true
  missing_enough = le-leb (S.dirty * lines_of S) (100 * (d + missing_lines S.dirty (lines_of S) d)) (omega arith)

  pub missing_least : (k : ℕ) → k < missing_lines S.dirty (lines_of S) d → enough_dirty S (d + k) ≡ false
  missing_least k h = lt-leb (S.dirty * lines_of S) (100 * (d + k)) (omega arith)
