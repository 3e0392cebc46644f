use Rattle.words.proofs.General.{arith}
use Rattle.probe.proofs.Meetings.{ways_room, found_below, decided-met, decided-missed}
use Rattle.probe.proofs.decide.Goals as goal

pub on_match-requires : goal.on_match-requires
on_match-requires c =
    let fit = c.args.t.now.sized in
    let e = c.first_line-base.ensures in
    omega (
      arith,
      e,
      ways_room fit c.args.x c.address_of-address.ensures c.set_index-set.ensures,
      found_below fit c.args.x c.address_of-address.ensures c.set_index-set.ensures c.block_of.ensures e c.find-found.ensures c.in-Some.is,
    )

pub returns-in-Some : goal.returns-in-Some
returns-in-Some c = decided-met c.args.t.now.sized c.args.x c.address_of-address.ensures c.set_index-set.ensures c.block_of.ensures c.first_line-base.ensures c.find-found.ensures c.in-Some.is c.on_match.ensures

pub returns-in-None : goal.returns-in-None
returns-in-None c = decided-missed c.args.t.now.sized c.args.x c.address_of-address.ensures c.set_index-set.ensures c.block_of.ensures c.first_line-base.ensures c.find-found.ensures c.in-None.is c.take_over.ensures
