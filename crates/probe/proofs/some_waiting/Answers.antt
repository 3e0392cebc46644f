use Rattle.words.proofs.General.{◌+◌, refl, rules}
use Rattle.words.proofs.Ranged.{some-from_any}
use Rattle.tables.specs.Raw.{waiting_at}
use Rattle.probe.proofs.some_waiting.Goals as goal

pub returns : goal.returns
returns c = let a = c.args in some-from_any a.ways (λ w. waiting_at a.marks.now (a.base + w)) refl (λ x b q k. search rules) c.any.ensures.ran
