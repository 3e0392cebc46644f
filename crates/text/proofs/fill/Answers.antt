-- The character, written over k places.
use Rattle.words.proofs.General.{arith, ◌+◌, ◌≤◌, length, length-take, length-drop}
use Rattle.text.proofs.Puts.{mid_filled}
use Rattle.text.proofs.fill.Goals as goal

pub returns : goal.returns
returns c =
    let h : c.args.at + c.args.k ≤ length c.args.out.now = c.requires in
    mid_filled _ _ c.args.k c.args.c (c.fill.ensures.after (λ y e. e)) (simp (length-take, length-drop) (omega arith)) (omega arith) (omega arith)
