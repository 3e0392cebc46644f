use Rattle.words.proofs.General.{rules}
use Rattle.trees.proofs.Spans.{span_of}
use Rattle.trees.proofs.Steps.{chosen_some, chosen_none}
use Rattle.trees.proofs.choose.Goals as goal

pub descend-w-requires : goal.descend-w-requires
descend-w-requires c = span_of c.args.ways c.requires

pub returns-then-has_candidate : goal.returns-then-has_candidate
returns-then-has_candidate c = search (rules, chosen_some)

pub returns-else-has_candidate : goal.returns-else-has_candidate
returns-else-has_candidate c = search (rules, chosen_none)
