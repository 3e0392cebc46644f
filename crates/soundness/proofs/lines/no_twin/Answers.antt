use Rattle.words.proofs.General.{refl, rules}
use Rattle.words.proofs.Ranged.{every-from_part}
use Rattle.model.specs.SoundLent as is
use Rattle.layout.specs.Held.{held}
use Rattle.soundness.proofs.lines.no_twin.Goals as goal

pub returns : goal.returns
returns c = every-from_part c.args.first c.args.l (held c.args.t.now is.apart c.args.l) refl (λ x b q k. search rules) c.all.ensures.ran
