-- The reason behind the check.
use Rattle.std.proofs.lemmas.Result.{err_from_is_err_and}
use Rattle.words.proofs.General.{arith}
use Rattle.soundness.proofs.Checked.{passed-own}
use Rattle.reasons.proofs.Heads.{reason_refused, reason_passed}
use Rattle.reasons.proofs.reason_for.Goals as goal

pub reason_held-requires : goal.reason_held-requires
reason_held-requires c = passed-own _ _ c.checked_layout.ensures (λ i. omega (arith, c.type_inv.words i)) c.in_ok-g.was

pub returns-in_err-g : goal.returns-in_err-g
returns-in_err-g c =
    let p = err_from_is_err_and c.from_residual.result c.from_residual.ensures.1 in
    rw (p.1, p.2) (reason_refused _ _ _ _ c.checked_layout.ensures c.in_err-g.was)

pub returns : goal.returns
returns c =
    reason_passed _ _ _ _ c.checked_layout.ensures (λ i. omega (arith, c.type_inv.words i)) c.in_ok-g.was c.reason_held.ensures
