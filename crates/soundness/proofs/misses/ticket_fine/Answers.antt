use Rattle.soundness.proofs.OfMisses.{ticket_kept}
use Rattle.soundness.proofs.misses.ticket_fine.Goals as goal

pub returns : goal.returns
returns c =
    let t = c.args.t.now in
    ticket_kept t.geometry.settings t.longs.now t.words.now t.marks.now t.geometry.laid c.args.i
