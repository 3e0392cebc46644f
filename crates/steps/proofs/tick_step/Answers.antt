-- Tick, from the numbers.
use Rattle.words.proofs.General.{arith}
use Rattle.steps.proofs.Ticking.{tick-refused, tick_leaves}
use Rattle.encoding.proofs.Bridge.{is_fit}
use Rattle.steps.proofs.tick_step.Goals as goal

pub bounds-words-0 : goal.bounds-words-0
bounds-words-0 c = let z = is_fit _ _ _ c.requires.are in omega arith

pub returns-then-cycle-words : goal.returns-then-cycle-words
returns-then-cycle-words c = record { on = λ t i. tick-refused _ _ t i c.if-cycle-words.true c.refused.ensures }

pub bounds-words-0-2 : goal.bounds-words-0-2
bounds-words-0-2 c = let z = is_fit _ _ _ c.requires.are in omega arith

pub returns : goal.returns
returns c = record { on = λ t i. tick_leaves _ _ t i c.if-cycle-words.false c.blank.ensures }
