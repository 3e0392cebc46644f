use Rattle.words.proofs.General.{refl, rules}
use Rattle.words.proofs.Ranged.{every-from_all}
use Rattle.model.specs.SoundLent as is
use Rattle.model.proofs.Terms.{lines_of}
use Rattle.layout.specs.Held.{held}
use Rattle.soundness.proofs.lines.lines_fine.Goals as goal

pub returns : goal.returns
returns c = let t = c.args.t.now in every-from_all (lines_of t.geometry.settings) (held t is.line_fine) refl (λ x b q k. search rules) c.all.ensures.ran
