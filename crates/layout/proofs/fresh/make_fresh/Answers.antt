-- Fresh tables, from what each filling leaves.
use Rattle.layout.proofs.Filled.{fresh-filled}
use Rattle.layout.proofs.fresh.make_fresh.Goals as goal

pub returns : goal.returns
returns c =
    fresh-filled _ _ _ _ c.requires (c.fill.ensures.after (λ y e. e)) (c.fill-2.ensures.after (λ y e. e)) (c.fill-3.ensures.after (λ y e. e)) (c.fill-4.ensures.after (λ y e. e))
