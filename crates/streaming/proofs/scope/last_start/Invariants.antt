-- What is left of the walk, from here, ends where all of it does.
use Rattle.words.proofs.General.{◌+◌, ◌-◌, ◌≤◌, ◌≡◌, length, drop}
use Rattle.streaming.specs.Scopes.{before_last}
use Rattle.streaming.proofs.scope.last_start.Given as goal

abbrev pub invariant-loop-at : goal.invariant-loop-at
invariant-loop-at l = (l.at ≤ length l.s) × (l.at + before_last 0 (drop l.at l.s) ≡ before_last 0 l.s)

abbrev pub decreases-loop-at : goal.decreases-loop-at
decreases-loop-at l = length l.s - l.at
