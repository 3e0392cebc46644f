use Rattle.words.proofs.General.{◌+◌, ◌-◌, ◌≡◌, arith, refl, rules, ◌∙◌}
use Rattle.words.proofs.Ranged.{every-from_part}
use Rattle.model.specs.SoundLent as is
use Rattle.layout.specs.Held.{held}
use Rattle.soundness.proofs.lines.backed_from.Goals as goal

pub returns : goal.returns
returns c =
    let a = c.args in
    let n : a.first + a.n - a.first ≡ a.n = omega arith in
    every-from_part a.first (a.first + a.n) (held a.f.now.slices is.sector_backed) refl (λ x b q k. search rules) c.all.ensures.ran ∙ rw n
