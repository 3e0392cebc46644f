-- What the records left, or that printing failed.
use Rattle.words.proofs.General.{refl, ap}
use Rattle.streaming.specs.declared.work.Work.{Work}
use Rattle.trace.proofs.Going.{records_claims, failed_stands}
use Rattle.trace.proofs.work.behind.Goals as goal

pub returns-then-t : goal.returns-then-t
returns-then-t c =
    let e = c.failed.ensures in
    failed_stands (ap (λ (x : Work). x.have) e) (ap (λ (x : Work). x.left) e) (ap (λ (x : Work). x.next) e)

pub returns : goal.returns
returns c = record { waits = refl; comes = refl; claims = rw c.next_of.ensures (records_claims c.args.t.stop c.args.have) }
