use Rattle.words.proofs.General.{ap, ◌∙◌, Bool, arith}
use Rattle.probe.specs.Scan.{victim_in, enough_in}
use Rattle.probe.proofs.Meetings.{victim_below}
use Rattle.probe.proofs.take_over.Goals as goal

pub on_miss-requires : goal.on_miss-requires
on_miss-requires c =
    let a = c.args in
    let t = a.t.now in
    let s = t.geometry.settings in
    let by_count = c.victim-v.ensures ∙ ap (λ (b : Bool). victim_in s t.words.now t.marks.now a.i a.base b) c.enough_dirty-enough.ensures in
    omega (arith, victim_below s t.words.now t.marks.now a.i a.base (enough_in s t.words.now) t.sized.tree by_count c.in-Some.is, c.requires.1)
