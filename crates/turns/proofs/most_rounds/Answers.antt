-- The queue places and the miss entries in use.
use Rattle.words.proofs.General.{arith}
use Rattle.turns.proofs.Turns.{in_use_counted}
use Rattle.turns.proofs.most_rounds.Goals as goal

pub returns : goal.returns
returns c =
    let z = c.args.t.now.sized in
    record {
      on = λ t i. let k = in_use_counted _ c.args.t.now.geometry.laid c.used-queued.ensures c.used-missed.ensures t i in omega (arith, k.0, k.1, c.max.ensures);
      few = omega (arith, c.used-missed.ensures.most, c.used-queued.ensures.most, c.max.ensures);
    }
