-- What the run that ends there is made of.
use Rattle.text.specs.Words.{in_word}
use Rattle.text.proofs.word_end.Given as goal

abbrev pub ghost-run_end : goal.ghost-run_end
ghost-run_end a = in_word
