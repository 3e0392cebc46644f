-- What the run that ends there is made of.
use Rattle.text.specs.Words.{in_line}
use Rattle.text.proofs.line_end.Given as goal

abbrev pub ghost-run_end : goal.ghost-run_end
ghost-run_end a = in_line
