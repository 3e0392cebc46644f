-- The run from `at` on ends where the run from `i` on does.
use Rattle.words.proofs.General.{◌≡◌}
use Rattle.text.specs.Words.{past}
use Rattle.text.proofs.run_end.Given as goal

abbrev pub invariant-loop-i : goal.invariant-loop-i
invariant-loop-i g l = past g.p l.s l.at ≡ past g.p l.s l.i
