use Rattle.words.proofs.General.{rules, ◌∙◌}
use Rattle.words.proofs.Ranged.{count-from_filter}
use Rattle.model.specs.SoundLent as is
use Rattle.layout.specs.Held.{held}
use Rattle.soundness.proofs.OfSearch.{read_queued_lem}
use Rattle.soundness.proofs.search.reads_for.Goals as goal

pub returns : goal.returns
returns c =
    let f = c.args.f.now in
    let t = f.slices in
    count-from_filter f.queued (held t is.read_for c.args.a.0) c.filter.ensures.source c.filter.ensures.closure (λ x b q k. search rules) c.count.ensures.ran
    ∙ read_queued_lem t.geometry.settings t.longs.now t.words.now t.marks.now c.args.a.0 f.queued f.ends
