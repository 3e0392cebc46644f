-- `percentage::list` meets its contract. Assumes nothing.
use Rattle.words.proofs.General.{◌-◌, ◌≤◌, length}
use Rattle.percentage.specs.Differences.{Startable, differences_from}
use Rattle.percentage.proofs.Writes.{Written}
use Rattle.percentage.proofs.list.Given as goal

abbrev pub invariant-loop-found : goal.invariant-loop-found
invariant-loop-found l =
    Startable l.place.dirty l.place.lines l.place.percent × Written l.initial.out l.out l.n (differences_from l.place.dirty l.place.lines l.place.percent) × (20 ≤ length l.initial.out)

abbrev pub decreases-loop-found : goal.decreases-loop-found
decreases-loop-found l = length l.initial.out - l.n
