-- All that a call told, its refusal too.
use Rattle.words.proofs.General.{arith}
use Rattle.records.proofs.Stores.{was_stored}
use Rattle.turns.proofs.Noting.{tells}
use Rattle.rounds.proofs.demand3.tell.Goals as goal

pub overflow_add-result : goal.overflow_add-result
overflow_add-result c =
    let k = was_stored c.args.events.now c.args.out _ c.encode-n.ensures.stored c.requires in
    omega (arith, k.0)

pub returns : goal.returns
returns c = search tells
