-- Three stores, one of them of four masks.
use Rattle.words.proofs.General.{arith, ◌≡◌, ◌∙◌, length, rules}
use Rattle.layout.proofs.Stores.{one-put}
use Rattle.layout.proofs.Parts.{part_put}
use Rattle.tables.proofs.push.Goals as goal

pub returns : goal.returns
returns c =
    let a = c.args in let four : length a.entry.masks ≡ 4 = search (rules, c.well_formed) in (
      one-put a.longs.now _ _ c.requires.0,
      part_put _ _ _ _ a.entry.masks c.copy_from_slice.ensures.after (four ∙ omega arith),
      rw c.from.ensures (one-put a.marks.now _ _ c.requires.2),
    )
