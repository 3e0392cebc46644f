-- The current cycle, the queue's end and the lines; then the rest, which relies on them.
use Rattle.words.proofs.General.{ap, not}
use Rattle.soundness.proofs.OfTables.{Firstly, unsound, first-yes, rest, queue_ends}
use Rattle.soundness.proofs.tables_sound.Goals as goal

pub returns-then-not-t-gathered : goal.returns-then-not-t-gathered
returns-then-not-t-gathered c = unsound _ _ _ _ c.args.t.now.geometry.laid _ _ c.gathered.ensures c.lines_fine.ensures (ap not c.if-not-t-gathered.true)

pub invariant_of-f : goal.invariant_of-f
invariant_of-f c =
    let t = c.args.t.now in
    let first : Firstly t.geometry.settings t.longs.now t.words.now t.marks.now =
    first-yes _ _ _ _ t.geometry.laid _ _ c.gathered.ensures c.lines_fine.ensures (ap not c.if-not-t-gathered.false) in
    record { fine = first.lines; ends = queue_ends t.geometry.settings t.geometry.laid t.marks.now first.kinds c.used.ensures }

pub returns : goal.returns
returns c =
    let t = c.args.t.now in
    let first : Firstly t.geometry.settings t.longs.now t.words.now t.marks.now =
    first-yes _ _ _ _ t.geometry.laid _ _ c.gathered.ensures c.lines_fine.ensures (ap not c.if-not-t-gathered.false) in
    rest _ _ _ _ t.geometry.laid first c.sectors_fine.ensures c.tickets_fine.ensures c.gathered-2.ensures c.entries_fine.ensures
    c.places_fine.ensures c.count_fine.ensures c.trees_fine.ensures
