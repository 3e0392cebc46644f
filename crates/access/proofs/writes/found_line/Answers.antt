-- Its own sector and the cycle, or the cycle alone.
use Rattle.words.proofs.General.{ℕ, sym, ap, ◌∙◌, List}
use Rattle.model.proofs.Terms.{lent}
use Rattle.access.proofs.Changes.{touch_room, change_room, met-left, touched}
use Rattle.access.proofs.writes.found_line.Goals as goal
use Rattle.access.proofs.writes.found_line.Goals.{then-is_miss, else-is_miss}

pub fetch_sector-requires : goal.fetch_sector-requires
fetch_sector-requires c = (change_room _ _ _ _ _ c.requires.0.met c.args.g.laid, c.requires.1)

pub touch-requires : goal.touch-requires
touch-requires c = touch_room _ _ _ _ _ c.requires.0.met c.args.g.laid c.if-is_miss.auto.words

pub returns : goal.returns
returns c =
    let a = c.args in
    let m = c.requires.0.met in
    let p = a.g.laid in
    elim c.if-is_miss.branch [
      | then-is_miss w ↦ rw w.marks-is (met-left _ _ _ _ _ m p c.requires.2 w.fetch_sector.ensures (rw w.words-is at c.touch.ensures))
      | else-is_miss w ↦ rw w.marks-is (
          ap (λ (words : List ℕ). lent a.longs.now words a.marks.now) (rw w.words-is at c.touch.ensures)
          ∙ touched _ _ _ _ _ m p (rw (c.requires.1, sym c.is_miss.ensures ∙ w.if-is_miss.false)))
    ]
