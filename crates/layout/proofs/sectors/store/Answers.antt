-- The three columns, one after the other.
use Rattle.words.proofs.General.{ℕ, ◌+◌, ◌-◌, ◌*◌, arith, ◌≡◌, ap, ◌∙◌, List, map, length, length-map, put, rules}
use Rattle.model.specs.declared.Sector.{Sector}
use Rattle.layout.specs.Sectors.{statuses, readables}
use Rattle.layout.proofs.Parts.{part_put}
use Rattle.layout.proofs.sectors.store.Goals as goal

pub returns : goal.returns
returns c =
    let a = c.args in
    let four : length a.four ≡ 4 = search (rules, c.well_formed) in
    let long : (f : Sector → ℕ) (at : ℕ) → length (map f a.four) ≡ at + 4 - at = λ f at. length-map a.four f ∙ four ∙ omega arith in (
      part_put _ _ _ _ _ (c.copy_from_slice.ensures.after ∙ c.masks_of.ensures) (long (λ s. s.mask) (a.at.masks + 4 * a.line)),
      part_put _ _ _ _ (readables a.four) (c.copy_from_slice-3.ensures.after ∙ c.readables_of.ensures) (long _ (a.at.readables + 4 * a.line))
          ∙ ap (λ (l : List ℕ). put l (a.at.readables + 4 * a.line) (readables a.four))
          (part_put _ _ _ _ (statuses a.four) (c.copy_from_slice-2.ensures.after ∙ c.statuses_of.ensures) (long _ (4 * a.line))),
    )
