-- No word is asked for, the word is there, it is not.
use Rattle.words.proofs.General.{sym, ◌∙◌, eqb-true, eqb-false}
use Rattle.assembly.proofs.Fields.{word_none, word_there, word_missing}
use Rattle.assembly.proofs.field_next.Goals as goal

pub returns-then-is_empty-clause-value : goal.returns-then-is_empty-clause-value
returns-then-is_empty-clause-value c =
    word_none _ _ _ _ (eqb-true _ _ (sym c.is_empty.ensures ∙ c.if-is_empty.true)) c.number_next.ensures.value

pub returns-then-word_is-clause-value : goal.returns-then-word_is-clause-value
returns-then-word_is-clause-value c =
    word_there _ _ _ _ (eqb-false _ _ (sym c.is_empty.ensures ∙ c.if-is_empty.false)) c.skip_spaces-start.ensures c.word_is.ensures c.if-word_is.true c.word_end.ensures c.number_next-then-word_is.ensures.value

pub returns-else-word_is-clause-value : goal.returns-else-word_is-clause-value
returns-else-word_is-clause-value c =
    word_missing _ _ _ _ (eqb-false _ _ (sym c.is_empty.ensures ∙ c.if-is_empty.false)) c.skip_spaces-start.ensures c.word_is.ensures c.if-word_is.false
