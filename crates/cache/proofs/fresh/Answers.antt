-- Fresh tables behind refusals 1 and 2.
use Rattle.words.proofs.General.{sym, ◌∙◌}
use Rattle.layout.proofs.OfRange.{lengths_fit_lem}
use Rattle.cache.proofs.fresh.Goals as goal

pub make_fresh-requires : goal.make_fresh-requires
make_fresh-requires c =
    lengths_fit_lem _ _ _ _ (sym c.in_range.ensures ∙ c.if-not-in_range.false) (sym c.lengths_fit.ensures ∙ c.if-not-lengths_fit.false)
