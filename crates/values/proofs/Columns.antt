-- What stands in the table of answers at a status and a column: the code's default outside the table is HIT.
use Prim.Native.Nat.{ℕ, zero, suc, ◌<◌}
use mathlib.Core.Path.{◌≡◌, refl}
use mathlib.Core.List.{[]}
use native.Mathlib.Omega.{arith}
use lib.ListN.{get_or}
use Rattle.model.proofs.Terms.{status_number, answers, answer_at}
use Rattle.model.specs.declared.Status.{Status}
use Rattle.model.specs.declared.Status.TheVariants.{Invalid, Reserved, Valid, Modified}
use Rattle.model.specs.declared.Answer.TheVariants.{Hit}

pub in_table : (t : Status) (column : ℕ) → column < 3 → get_or (get_or answers (status_number t) []) column Hit ≡ answer_at t column
in_table Invalid zero h = refl
in_table Invalid (suc zero) h = refl
in_table Invalid (suc (suc zero)) h = refl
in_table Invalid (suc (suc (suc n))) h = absurd (omega arith)
in_table Reserved zero h = refl
in_table Reserved (suc zero) h = refl
in_table Reserved (suc (suc zero)) h = refl
in_table Reserved (suc (suc (suc n))) h = absurd (omega arith)
in_table Valid zero h = refl
in_table Valid (suc zero) h = refl
in_table Valid (suc (suc zero)) h = refl
in_table Valid (suc (suc (suc n))) h = absurd (omega arith)
in_table Modified zero h = refl
in_table Modified (suc zero) h = refl
in_table Modified (suc (suc zero)) h = refl
in_table Modified (suc (suc (suc n))) h = absurd (omega arith)
