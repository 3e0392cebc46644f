-- The names passed are not the word.
use Rattle.words.proofs.General.{◌≡◌, drop}
use Rattle.text.specs.Words.{word_at}
use Rattle.text.specs.Rules.{rule_names, rule_from}
use Rattle.text.proofs.rules.rule_at.Given as goal

abbrev pub invariant-loop-i : goal.invariant-loop-i
invariant-loop-i l = rule_from 0 rule_names (word_at l.line l.at) ≡ rule_from l.i (drop l.i rule_names) (word_at l.line l.at)
