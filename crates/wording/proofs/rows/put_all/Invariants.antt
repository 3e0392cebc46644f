-- The pieces passed are put.
use Rattle.words.proofs.General.{map, take}
use Rattle.wording.specs.Pieces.{Puts}
use Rattle.wording.specs.Shown.{shown}
use Rattle.wording.proofs.rows.put_all.Given as goal

abbrev pub invariant-loop-piece : goal.invariant-loop-piece
invariant-loop-piece l = Puts l.initial.out l.fn.at (map shown (take l.piece-index l.pieces)) l.at l.out
