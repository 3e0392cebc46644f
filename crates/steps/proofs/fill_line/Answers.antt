-- A line of the set has the block.
use Rattle.words.proofs.General.{arith}
use Rattle.encoding.proofs.Rows.{set_room}
use Rattle.steps.proofs.Filling.{line-filled}
use Rattle.steps.proofs.fill_line.Goals as goal

pub fill_sector-requires-clause-l_bound : goal.fill_sector-requires-clause-l_bound
fill_sector-requires-clause-l_bound c =
    let a = c.args in
    let room = set_room a.g.settings a.address c.set_index-set.ensures c.requires.sized.sets c.requires.sized.ways in
    let p = c.args.g.laid in
    let inside = c.find_line-l.ensures.1 in
    let fits = c.requires.by_index c.find_line-l.result (omega (arith, inside)) in
    (omega (arith, inside), (omega arith, omega arith), fits.1)

pub fill_sector-requires-clause-dirty_in_bounds : goal.fill_sector-requires-clause-dirty_in_bounds
fill_sector-requires-clause-dirty_in_bounds c =
    let a = c.args in
    let room = set_room a.g.settings a.address c.set_index-set.ensures c.requires.sized.sets c.requires.sized.ways in
    let inside = c.find_line-l.ensures.1 in
    let fits = c.requires.by_index c.find_line-l.result (omega (arith, inside)) in
    (omega arith, fits.0)

pub returns : goal.returns
returns c =
    let a = c.args in
    let room = set_room a.g.settings a.address c.set_index-set.ensures c.requires.sized.sets c.requires.sized.ways in
    let f = c.find_line-l.ensures in
    line-filled a.g.settings a.address c.block_of-block.ensures (omega (arith, f.1)) f.2 c.fill_sector.ensures
