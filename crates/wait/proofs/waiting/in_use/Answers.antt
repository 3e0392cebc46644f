-- The queue places and the miss entries in use.
use Rattle.turns.proofs.Turns.{in_use_counted}
use Rattle.wait.proofs.waiting.in_use.Goals as goal

pub returns : goal.returns
returns c =
    let q = c.used-queued.ensures in
    let m = c.used-missed.ensures in
    record { queued = λ t i. (in_use_counted _ c.args.t.now.geometry.laid q m t i).0; missed = λ t i. (in_use_counted _ c.args.t.now.geometry.laid q m t i).1 }
