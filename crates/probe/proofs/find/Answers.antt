-- Way 0, or the first behind it.
use Rattle.words.proofs.General.{◌+◌, sym, ◌∙◌, add-zero, refl, rules}
use Rattle.tables.specs.Raw.{holds_at}
use Rattle.probe.proofs.Scans.{first-zero, first_below-from_later}
use Rattle.probe.proofs.find.Goals as goal

pub returns-then-holds_block : goal.returns-then-holds_block
returns-then-holds_block c =
    let a = c.args in
    first-zero (λ w. holds_at a.longs.now a.marks.now a.block.0 (a.base + w)) a.ways c.requires.0 (rw add-zero (sym c.holds_block.ensures ∙ c.if-holds_block.true))

pub returns : goal.returns
returns c =
    let a = c.args in
    first_below-from_later _ a.ways (λ w. holds_at a.longs.now a.marks.now a.block.0 (a.base + w)) (rw add-zero (sym c.holds_block.ensures ∙ c.if-holds_block.false)) refl (λ x b q k. search rules) c.find.ensures.ran
