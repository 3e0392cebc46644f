-- Up to the end of the word.
use Rattle.words.proofs.General.{◌∙◌}
use Rattle.text.proofs.Runs.{word_cut}
use Rattle.text.proofs.word_at.Goals as goal

pub returns : goal.returns
returns c = c.part.ensures ∙ word_cut _ _ c.word_end.ensures
