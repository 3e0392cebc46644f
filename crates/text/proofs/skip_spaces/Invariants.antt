-- What the run that ends there is made of.
use Rattle.text.specs.Words.{is_space}
use Rattle.text.proofs.skip_spaces.Given as goal

abbrev pub ghost-run_end : goal.ghost-run_end
ghost-run_end a = is_space
