-- A half is at most as wide as the span's other half.
use Rattle.words.proofs.General.{ℕ, ◌-◌, ◌<◌, ◌≡◌, arith, rules}
use Rattle.model.proofs.Terms.{named}
use Rattle.model.proofs.TreeBits.{bit_two}
use Rattle.trees.proofs.Spans.{half_most}
use Rattle.trees.proofs.Steps.{goes-named, goes_other}
use Rattle.trees.proofs.side.Goals as goal

two : (tree node : ℕ) {h : ℕ} → h ≡ named tree node → h < 2
two tree node e = rw e (bit_two tree (node - 1))

pub overflow_mul-h : goal.overflow_mul-h
overflow_mul-h c = record { fits = omega (arith, half_most c.args.half (two c.args.tree c.args.node c.named_half-h.ensures)) }

pub overflow_add-first : goal.overflow_add-first
overflow_add-first c = record { fits = omega (arith, half_most c.args.half (two c.args.tree c.args.node c.named_half-h.ensures)) }

pub has_candidate-requires : goal.has_candidate-requires
has_candidate-requires c = omega (arith, half_most c.args.half (two c.args.tree c.args.node c.named_half-h.ensures))

pub overflow_sub-result : goal.overflow_sub-result
overflow_sub-result c = omega (arith, two c.args.tree c.args.node c.named_half-h.ensures)

pub returns-then-has_candidate : goal.returns-then-has_candidate
returns-then-has_candidate c = search (rules, two, goes-named)

pub returns-else-has_candidate : goal.returns-else-has_candidate
returns-else-has_candidate c = search (rules, two, goes_other)
