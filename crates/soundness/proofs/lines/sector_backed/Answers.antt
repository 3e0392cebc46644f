use Rattle.words.proofs.General.{arith}
use Rattle.soundness.proofs.FineLines.{reserved-low}
use Rattle.soundness.proofs.lines.sector_backed.Goals as goal

pub overflow_add-a : goal.overflow_add-a
overflow_add-a c =
    let f = c.args.f.now in
    let t = f.slices in
    omega (arith, reserved-low t.geometry.settings t.longs.now t.words.now t.marks.now f.fine c.args.i c.requires c.if-t-i-ne1.false)
