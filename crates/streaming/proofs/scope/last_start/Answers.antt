-- What is left of the walk, from here, ends where all of it does.
use Rattle.words.proofs.General.{rules}
use Rattle.streaming.proofs.Lasts.{walk_unknown, walk-last, walk-goes, walk_end}
use Rattle.streaming.proofs.scope.last_start.Goals as goal

pub returns-then-not-is_command : goal.returns-then-not-is_command
returns-then-not-is_command c = search (walk_unknown, rules)

pub returns-then-s-at : goal.returns-then-s-at
returns-then-s-at c = search walk-last

pub loop-at-preserved : goal.loop-at-preserved
loop-at-preserved c = search (walk-goes, rules)

pub returns : goal.returns
returns c = (walk_end _ c.loop-at.at c.loop-at.invariant.0 c.loop-at-test.false c.loop-at.invariant.1, c.loop-at.invariant.0)
