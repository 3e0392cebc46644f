-- What a call told, written where it was accepted.
use Rattle.words.proofs.General.{arith}
use Rattle.records.proofs.Stores.{was_stored}
use Rattle.turns.proofs.Noting.{accepted_says, refused_says, noted-none, noted-stored}
use Rattle.turns.proofs.note.Goals as goal

pub overflow_add-result : goal.overflow_add-result
overflow_add-result c =
    let k = was_stored c.args.events.now c.args.out _ c.encode-n.ensures.stored c.requires in
    omega (arith, k.0)

pub returns-then-accepted : goal.returns-then-accepted
returns-then-accepted c = search (noted-stored, accepted_says)

pub returns : goal.returns
returns c = search (noted-none, refused_says)
