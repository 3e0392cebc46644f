-- Every place but the last is in use, or the one behind it is not.
use Rattle.words.proofs.General.{◌+◌, ◌-◌, refl, ◌∙◌, not, ◌||◌, eqb, get_or, sub-zero, rules}
use Rattle.words.proofs.Chains.{all_below}
use Rattle.std.proofs.lemmas.Iterator.{YieldsList-from_range}
use Rattle.std.proofs.lemmas.Iterator.Search.{all_from_yields_List}
use Rattle.layout.proofs.places.gathered.Goals as goal

pub returns : goal.returns
returns c =
    let m = c.args.marks.now in
    let a = c.args.at in
    all_from_yields_List (λ i. not (eqb (get_or m (a + i) 0) 0) || eqb (get_or m (a + (i + 1)) 0) 0) _ _ _ c.all.ensures.ran (YieldsList-from_range 0 (c.args.n - 1) (c.args.n - 1) refl (sub-zero _)) (λ x b q k. search rules)
    ∙ all_below (c.args.n - 1) (λ i. not (eqb (get_or m (a + i) 0) 0) || eqb (get_or m (a + (i + 1)) 0) 0)
