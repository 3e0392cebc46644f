use Rattle.words.proofs.General.{refl, rules}
use Rattle.words.proofs.Ranged.{some-from_any}
use Rattle.model.specs.SoundLent as is
use Rattle.layout.specs.Held.{held}
use Rattle.soundness.proofs.search.has_unsent.Goals as goal

pub returns : goal.returns
returns c = let t = c.args.t.now in some-from_any t.geometry.settings.misses (held t is.unsent_at_for c.args.a.0) refl (λ x b q k. search rules) c.any.ensures.ran
