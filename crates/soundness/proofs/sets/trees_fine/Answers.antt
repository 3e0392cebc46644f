use Rattle.words.proofs.General.{◌≡◌, ◌+◌, ◌-◌, arith, ◌∙◌, ltb, take, drop, rules}
use Rattle.words.proofs.Ranged.{every-from_items}
use Rattle.soundness.proofs.OfTables.{trees_below}
use Rattle.soundness.proofs.sets.trees_fine.Goals as goal

pub returns : goal.returns
returns c =
    let t = c.args.t.now in
    let first = t.geometry.at.trees in
    let sets = t.geometry.settings.sets in
    let n : first + sets - first ≡ sets = omega arith in
    let same : take (first + sets - first) (drop first t.words.now) ≡ take sets (drop first t.words.now) = rw n in
    every-from_items _ (λ x. ltb x c.limit-most.result) c.iter.ensures.rest (λ x b q k. search rules) c.all.ensures.ran ∙ trees_below t c.limit-most.ensures _ same
