-- `compare::listing::Listing::list_turn`: the step says which pairs are listed.
use Rattle.words.proofs.General.{refl, rules}
use Rattle.compare.proofs.Turning.{fails_quiet, over_fails, pair_fails, pair_put, pair_quiet, row_quiet, read_quiet, over_quiet}
use Rattle.compare.proofs.listing.Listing.list_turn.Goals as goal

pub returns-in_err-turn-clause-lists_pair : goal.returns-in_err-turn-clause-lists_pair
returns-in_err-turn-clause-lists_pair c = fails_quiet _ _ _ _ _ _ (rw c.step-step.ensures at c.turn.ensures.comes) (search rules) _ c.from_residual.ensures.0 refl

pub returns-in_err-list_pair-in-Pair-clause-lists_pair : goal.returns-in_err-list_pair-in-Pair-clause-lists_pair
returns-in_err-list_pair-in-Pair-clause-lists_pair c = pair_fails _ _ c.step-step.ensures _ c.in-Pair.is c.if-differs.true c.from_residual-in_err-list_pair-in-Pair.ensures.0

pub returns-in_err-finish-in-Over-clause-lists_pair : goal.returns-in_err-finish-in-Over-clause-lists_pair
returns-in_err-finish-in-Over-clause-lists_pair c = over_fails _ _ c.step-step.ensures _ c.in-Over.is c.from_residual-in_err-finish-in-Over.ensures.0 c.finish.ensures.1

pub returns-in_ok-list_pair-in-Pair-clause-lists_pair : goal.returns-in_ok-list_pair-in-Pair-clause-lists_pair
returns-in_ok-list_pair-in-Pair-clause-lists_pair c = pair_put _ _ c.step-step.ensures c.in-Pair.is c.if-differs.true c.in_ok-list_pair-in-Pair.ensures.shown

pub returns-else-differs-clause-lists_pair : goal.returns-else-differs-clause-lists_pair
returns-else-differs-clause-lists_pair c = pair_quiet _ _ c.step-step.ensures c.in-Pair.is c.if-differs.false refl

pub returns-in_ok-finish-in-Over-clause-lists_pair : goal.returns-in_ok-finish-in-Over-clause-lists_pair
returns-in_ok-finish-in-Over-clause-lists_pair c = over_quiet _ _ c.step-step.ensures c.in-Over.is c.finish.ensures.1

pub returns-in-Row-clause-lists_pair : goal.returns-in-Row-clause-lists_pair
returns-in-Row-clause-lists_pair c = row_quiet _ _ c.step-step.ensures c.in-Row.is refl

pub returns-in-Wants-clause-lists_pair : goal.returns-in-Wants-clause-lists_pair
returns-in-Wants-clause-lists_pair c = read_quiet _ _ c.step-step.ensures c.in-Wants.is refl
