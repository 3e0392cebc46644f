-- The step behind the check.
use Rattle.words.proofs.General.{rules}
use Rattle.model.specs.History.{step_by}
use Rattle.cache.specs.Made.{model_call}
use Rattle.soundness.proofs.Checked.{passed-own}
use Rattle.cache.proofs.Checked.{call-refused, call-passed}
use Rattle.cache.proofs.perform.Goals as goal

pub step-requires : goal.step-requires
step-requires c = passed-own _ _ c.checked_layout.ensures (λ i. search rules) c.in-Ok.is

pub returns-in-Err : goal.returns-in-Err
returns-in-Err c = call-refused _ _ c.checked_layout.ensures _ c.in-Err.is c.refused.ensures

pub returns-in-Ok : goal.returns-in-Ok
returns-in-Ok c =
    call-passed _ _ c.checked_layout.ensures (λ i. search rules) c.in-Ok.is (λ s. step_by s (model_call c.args.k)) c.step.ensures
