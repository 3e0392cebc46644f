use Rattle.words.proofs.General.{◌∙◌, rules}
use Rattle.words.proofs.Chains.{any_listed}
use Rattle.model.specs.declared.Sector.{Sector}
use Rattle.model.specs.Tables.{is_modified}
use Rattle.std.proofs.lemmas.Iterator.{YieldsList-from_slice}
use Rattle.std.proofs.lemmas.Iterator.Search.{any_from_yields_List}
use Rattle.layout.proofs.dirty.some_modified.Goals as goal

pub returns : goal.returns
returns c =
    any_from_yields_List (λ (s : Sector). is_modified s.status) _ _ _ c.any.ensures.ran (YieldsList-from_slice c.args.four c.iter.ensures.rest) (λ x b q k. search rules)
    ∙ any_listed (λ (s : Sector). is_modified s.status) c.args.four
