-- The rest of the row is 0 already.
use Rattle.words.proofs.General.{ℕ, ◌+◌, ◌-◌, arith, ◌≡◌, ap, ◌∙◌, replicate, put}
use Rattle.layout.proofs.Parts.{part_filled}
use Rattle.tables.proofs.Closed.{one_cleared, few_cleared}
use Rattle.tables.proofs.clear_row.Goals as goal

pub returns-then-n-gt1 : goal.returns-then-n-gt1
returns-then-n-gt1 c =
    let a = c.args in
    let as_many : a.at + a.n - a.at ≡ a.n = omega arith in
    few_cleared a.words.now a.at a.n a.row c.requires.1 c.requires.2 c.requires.3
    (part_filled a.words.now a.at (a.at + a.n - a.at) 0 (omega arith) (c.fill.ensures.after (λ y e. e)) ∙ ap (λ (k : ℕ). put a.words.now a.at (replicate k 0)) as_many)

pub returns-else-n-gt1 : goal.returns-else-n-gt1
returns-else-n-gt1 c = let a = c.args in one_cleared a.words.now a.at a.n a.row c.requires.1 c.requires.2 c.requires.3 (omega arith)
