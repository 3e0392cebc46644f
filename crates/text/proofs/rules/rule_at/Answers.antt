-- The names passed are not the word.
use Rattle.words.proofs.General.{sym, refl, ◌∙◌}
use Rattle.text.proofs.RuleNames.{rule_here, rule-on, rule-none}
use Rattle.text.proofs.rules.rule_at.Goals as goal

pub returns-then-word_is : goal.returns-then-word_is
returns-then-word_is c = rule_here _ _ _ _ refl _ _ c.loop-i-test.true (rw c.as_bytes.ensures.value at c.word_is.ensures) c.if-word_is.true ∙ sym c.loop-i.invariant

pub loop-i-preserved : goal.loop-i-preserved
loop-i-preserved c = c.loop-i.invariant ∙ rule-on _ _ _ _ refl _ _ c.loop-i-test.true (rw c.as_bytes.ensures.value at c.word_is.ensures) c.if-word_is.false

pub returns : goal.returns
returns c = rule-none _ _ c.loop-i-test.false ∙ sym c.loop-i.invariant
