use Rattle.words.proofs.General.{◌∙◌}
use Rattle.model.proofs.TreeBits.{masked_start, masked_yes, masked_no}
use Rattle.probe.proofs.candidates.Goals as goal
use Rattle.probe.proofs.candidates.Goals.{then-is_candidate, else-is_candidate}

pub loop-w-init : goal.loop-w-init
loop-w-init c = masked_start _

pub loop-w-preserved : goal.loop-w-preserved
loop-w-preserved c =
    elim c.if-is_candidate.branch [
      | then-is_candidate w ↦ masked_yes _ _ _ c.is_candidate.ensures w.if-is_candidate.true (w.mask-is ∙ w.marked-mask.ensures) c.loop-w.invariant
      | else-is_candidate w ↦ masked_no _ _ _ c.is_candidate.ensures w.if-is_candidate.false w.mask-is c.loop-w.invariant
    ]
