-- Behind its word a name, or a number.
use Rattle.words.proofs.General.{ap, arith, sym, refl, ◌∙◌, []}
use Rattle.std.proofs.Common.{Option}
use Rattle.std.specs.Option.{ok_or}
use Rattle.text.specs.declared.Number.{Number}
use Rattle.assembly.specs.declared.Expected.TheVariants.{Rule}
use Rattle.assembly.specs.Language.{rule_value}
use Rattle.assembly.proofs.Fields.{word_none, word_there, word_missing, value_named, value_number}
use Rattle.assembly.proofs.rule_next.Goals as goal

pub returns-then-not-word_is-clause-value : goal.returns-then-not-word_is-clause-value
returns-then-not-word_is-clause-value c =
    ap (λ (o : Option Number). ok_or o Rule) (word_missing _ rule_value _ _ (λ z. omega arith) c.skip_spaces-start.ensures c.word_is.ensures c.if-not-word_is.true)

pub returns-in-Some-clause-value : goal.returns-in-Some-clause-value
returns-in-Some-clause-value c =
    ap (λ (o : Option Number). ok_or o Rule)
    (word_there _ rule_value _ _ (λ z. omega arith) c.skip_spaces-start.ensures c.word_is.ensures c.if-not-word_is.false c.word_end-end.ensures (value_named _ _ c.skip_spaces-name.ensures c.rule_at.ensures c.in-Some.is c.word_end.ensures))

pub returns-in-None-clause-value : goal.returns-in-None-clause-value
returns-in-None-clause-value c =
    c.wanted.ensures.value
    ∙ ap (λ (o : Option Number). ok_or o Rule)
    (word_there _ rule_value _ _ (λ z. omega arith) c.skip_spaces-start.ensures c.word_is.ensures c.if-not-word_is.false c.word_end-end.ensures (value_number _ _ c.skip_spaces-name.ensures c.rule_at.ensures c.in-None.is (sym (word_none [] _ _ _ refl refl))))
