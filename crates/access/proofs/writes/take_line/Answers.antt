use Rattle.words.proofs.General.{arith, sym, ap, ◌∙◌}
use Rattle.encoding.proofs.Bridge.{is_fit}
use Rattle.layout.proofs.DirtyCount.{dirty_few}
use Rattle.access.specs.Written.{sectors_after}
use Rattle.access.proofs.Sectors.{taken_left}
use Rattle.access.proofs.Lines.{sectors-taken, back-dirty, was_counted}
use Rattle.access.proofs.writes.take_line.Goals as goal

pub recount-requires : goal.recount-requires
recount-requires c =
    let m = c.requires.0.met in
    let p = c.args.g.laid in
    (omega (arith, is_fit _ _ _ m.is), dirty_few _ _ m.is p, rw (c.is_some.ensures ∙ back-dirty _ _ _ _ _ m c.requires.1) (was_counted _ _ m.is _ m.below p))

pub write_line-requires : goal.write_line-requires
write_line-requires c =
    let m = c.requires.0.met in
    omega (arith, m.below, is_fit _ _ _ m.is, c.args.g.laid, c.recount.auto.words)

pub returns : goal.returns
returns c =
    let o = c.args.o in
    let m = c.requires.0.met in
    let was = c.is_some.ensures ∙ back-dirty _ _ _ _ _ m c.requires.1 in
    let four = taken_left o.access o.decision c.requires.2 c.taken_sectors-four.ensures ∙ ap (sectors_after o.access o.decision) (sym (sectors-taken _ _ _ _ _ m c.requires.1)) in
    c.write_line.ensures
    ∙ rw (c.block_of-block.ensures, c.address_of.ensures, c.recount.ensures, c.some_modified.ensures, was, four)
