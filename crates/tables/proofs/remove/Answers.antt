-- The last entry becomes zeros; else four columns close up, of as many places each.
use Rattle.words.proofs.General.{ℕ, ◌+◌, ◌*◌, ◌-◌, arith, ◌≡◌, ap, ◌∙◌, List, length-set, closed}
use Rattle.tables.proofs.Closed.{only_one, only_row, closed_as, rows}
use Rattle.tables.proofs.remove.Goals as goal

pub returns-then-e-n : goal.returns-then-e-n
returns-then-e-n c =
    let a = c.args in
    let at = a.at in
    let left = a.n - a.e in
    let one : a.n - a.e ≡ 1 = omega arith in
    let r = rows a.readers a.n a.e c.requires.e_lt_n.0 in
    let m = ap (λ (x : ℕ). a.readers * x) one in (
      only_one a.longs.now (at.misses + a.e) left one (omega arith),
      c.clear_row.ensures ∙ only_row a.words.now (at.tickets + a.readers * a.e) (a.readers * left) a.readers (omega arith) (omega arith),
      only_one _ (at.counts + a.e) left one (simp length-set (omega arith))
          ∙ ap (λ (l : List ℕ). closed l (at.counts + a.e) left 1) (only_one a.marks.now (at.sent + a.e) left one (omega arith)),
    )

pub returns : goal.returns
returns c =
    let a = c.args in
    let r = rows a.readers a.n a.e c.requires.e_lt_n.0 in (
      closed_as _ _ _ (a.n - a.e) 1 (omega arith) (omega arith, omega arith) c.close.ensures,
      closed_as _ _ _ (a.readers * (a.n - a.e)) a.readers (omega arith) (omega arith, omega arith) c.close-2.ensures,
      closed_as _ _ _ (a.n - a.e) 1 (omega arith) (omega arith, omega (arith, c.close-3.auto.s)) c.close-4.ensures
          ∙ ap (λ (l : List ℕ). closed l (a.at.counts + a.e) (a.n - a.e) 1) (closed_as _ _ _ (a.n - a.e) 1 (omega arith) (omega arith, omega arith) c.close-3.ensures),
    )
