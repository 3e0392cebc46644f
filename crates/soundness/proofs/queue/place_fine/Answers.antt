-- By its kind.
use Rattle.words.proofs.General.{rules}
use Rattle.soundness.proofs.OfQueue.{place-answers}
use Rattle.soundness.proofs.queue.place_fine.Goals as goal

pub returns-in-0 : goal.returns-in-0
returns-in-0 c = let t = c.args.t.now in (place-answers t.geometry.settings t.geometry.laid t.longs.now t.words.now t.marks.now c.args.p).unused c.in-0.is

pub returns-in-1 : goal.returns-in-1
returns-in-1 c = let t = c.args.t.now in (place-answers t.geometry.settings t.geometry.laid t.longs.now t.words.now t.marks.now c.args.p).reads c.in-1.is c.has_unsent.ensures

pub returns-in-2 : goal.returns-in-2
returns-in-2 c = let t = c.args.t.now in (place-answers t.geometry.settings t.geometry.laid t.longs.now t.words.now t.marks.now c.args.p).writes c.in-2.is

pub returns-in_default : goal.returns-in_default
returns-in_default c =
    let t = c.args.t.now in
    (place-answers t.geometry.settings t.geometry.laid t.longs.now t.words.now t.marks.now c.args.p).unknown (λ e. search rules) (λ e. search rules) (λ e. search rules)
