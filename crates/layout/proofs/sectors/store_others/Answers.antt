-- The three columns, one after the other: each but for one number.
use Rattle.words.proofs.General.{◌+◌, ◌*◌, arith, ◌≡◌, ◌∙◌, ap, List, ℕ, map, length, length-set, length-map, put, rules, eqb-true}
use Rattle.model.specs.declared.Sector.{Sector}
use Rattle.layout.specs.Sectors.{statuses, readables, but_one}
use Rattle.layout.proofs.Replaced.{column_past, column_any, kept_put}
use Rattle.layout.proofs.sectors.store_others.Goals as goal

pub keep_column-requires-3 : goal.keep_column-requires-3
keep_column-requires-3 c =
    let a = c.args in
    let room = c.requires.0 in
    let four : length a.four ≡ 4 = search (rules, c.well_formed) in
    let own : length a.found ≡ 4 = search (rules, c.well_formed) in
    let long : (f : Sector → ℕ) → length (map f a.four) ≡ 4 = λ f. length-map a.four f ∙ four in
    let m = kept_put a.marks.now (4 * a.line) a.k c.statuses_of.ensures c.statuses_of-2.ensures (long _) (omega arith) (c.keep_column-2.ensures 0) in
    let past = column_past a.marks.now (4 * a.line) (but_one a.k (statuses a.found) (statuses a.four)) (a.at.readables + 4 * a.line) (readables a.found) (length-set (statuses a.four) a.k _ ∙ long _) room.1 (omega arith) c.requires.1.2 in (
      omega arith,
      (
        λ x y. eqb-true x y,
        (
          omega (arith, c.keep_column-2.auto.s),
          λ j d k. rw c.readables_of.ensures (column_any _ (a.at.readables + 4 * a.line) (readables a.found) (length-map a.found _ ∙ own) (omega (arith, c.keep_column-2.auto.s)) (rw m past) j d k),
        ),
      ),
    )

pub returns : goal.returns
returns c =
    let a = c.args in
    let room = c.requires.0 in
    let four : length a.four ≡ 4 = search (rules, c.well_formed) in
    let long : (f : Sector → ℕ) → length (map f a.four) ≡ 4 = λ f. length-map a.four f ∙ four in
    let m = kept_put a.marks.now (4 * a.line) a.k c.statuses_of.ensures c.statuses_of-2.ensures (long _) (omega arith) (c.keep_column-2.ensures 0) in (
      kept_put a.words.now (a.at.masks + 4 * a.line) a.k c.masks_of.ensures c.masks_of-2.ensures (long (λ s. s.mask)) room.0 (c.keep_column.ensures 0),
      kept_put c.keep_column-2.new.s (a.at.readables + 4 * a.line) a.k c.readables_of.ensures c.readables_of-2.ensures (long _) (omega (arith, c.keep_column-2.auto.s)) (c.keep_column-3.ensures 0)
          ∙ ap (λ (l : List ℕ). put l (a.at.readables + 4 * a.line) (but_one a.k (readables a.found) (readables a.four))) m,
    )
