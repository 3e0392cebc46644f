use Rattle.words.proofs.General.{sym, ◌∙◌}
use Rattle.soundness.proofs.OfSectors.{none_backed}
use Rattle.soundness.proofs.lines.sixteen_backed.Goals as goal

pub returns-then-none_reserved : goal.returns-then-none_reserved
returns-then-none_reserved c =
    let t = c.args.f.now.slices in
    c.if-none_reserved.true
    ∙ none_backed t.geometry.settings t.longs.now t.words.now t.marks.now c.args.first 16 (sym c.none_reserved.ensures ∙ c.if-none_reserved.true)
