-- An unused entry, a sent one, an unsent one.
use Rattle.layout.proofs.ByPlace.{read_from}
use Rattle.soundness.proofs.OfMisses.{sent_entry, unsent-entry}
use Rattle.soundness.proofs.misses.entry_fine.Goals as goal

pub returns-then-mark-ne0 : goal.returns-then-mark-ne0
returns-then-mark-ne0 c =
    let f = c.args.f.now in
    let t = f.slices in
    let at = t.geometry.laid in
    sent_entry t.geometry.settings t.longs.now t.words.now t.marks.now c.args.e _ _ _ (read_from at.counts t.marks.now c.args.e) (read_from at.sent t.marks.now c.args.e) (read_from at.misses t.longs.now c.args.e) f.fine t.sized.sets t.sized.ways c.if-count-eq0.false _ _ c.set_reserves.ensures c.has_entry.ensures c.if-mark-ne0.true

pub returns : goal.returns
returns c =
    let f = c.args.f.now in
    let t = f.slices in
    let at = t.geometry.laid in
    unsent-entry t.geometry.settings t.longs.now t.words.now t.marks.now c.args.e _ _ _ (read_from at.counts t.marks.now c.args.e) (read_from at.sent t.marks.now c.args.e) (read_from at.misses t.longs.now c.args.e) f.fine t.sized.sets t.sized.ways c.if-count-eq0.false _ _ c.set_reserves.ensures c.has_entry.ensures _ c.if-mark-ne0.false c.reads_for.ensures
