use Rattle.words.proofs.General.{arith, ◌≡◌, rules}
use Rattle.probe.proofs.Scans.{unseen_stop, unseen_more, unseen_end, one-before}
use Rattle.probe.proofs.last_unused.Goals as goal

pub returns-then-is_unused : goal.returns-then-is_unused
returns-then-is_unused c = search (rules, unseen_stop, one-before)

pub loop-v-preserved : goal.loop-v-preserved
loop-v-preserved c = search (rules, unseen_more, one-before)

pub returns : goal.returns
returns c = let end : c.loop-v.v ≡ 0 = omega arith in unseen_end _ _ _ end c.loop-v.invariant
