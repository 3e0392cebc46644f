-- What was over stays so, or printing failed.
use Rattle.words.proofs.General.{ap}
use Rattle.streaming.specs.declared.work.Work.{Work}
use Rattle.trace.proofs.Going.{over_failed}
use Rattle.trace.proofs.work.finished.Goals as goal

pub returns : goal.returns
returns c = over_failed (ap (λ (x : Work). x.next) c.failed.ensures)
