-- By the number of the sector that changes.
use Rattle.words.proofs.General.{ℕ, ◌<◌, arith, ◌≡◌, refl, length, rules}
use Rattle.layout.proofs.OneOfFour.{four_changed}
use Rattle.layout.proofs.Stores.{none}
use Rattle.layout.proofs.Replaced.{others_as}
use Rattle.layout.proofs.sectors.store_rest.Goals as goal

last : (k : ℕ) → k < 4 → ((Unit {0} × (k ≡ 0 → ⊥)) × (k ≡ 1 → ⊥)) × (k ≡ 2 → ⊥) → k ≡ 3
last k h r = omega (arith, r.0.0.1, r.0.1, r.1)

pub returns-in-0 : goal.returns-in-0
returns-in-0 c =
    let a = c.args in let four : length a.f ≡ 4 = search (rules, c.well_formed) in
    others_as a.at a.line a.f a.x a.words.now a.marks.now c.in-0.is (four_changed a.f none a.x 0 four (omega arith) refl refl refl refl) c.store_others.ensures

pub returns-in-1 : goal.returns-in-1
returns-in-1 c =
    let a = c.args in let four : length a.f ≡ 4 = search (rules, c.well_formed) in
    others_as a.at a.line a.f a.x a.words.now a.marks.now c.in-1.is (four_changed a.f none a.x 1 four (omega arith) refl refl refl refl) c.store_others-in-1.ensures

pub returns-in-2 : goal.returns-in-2
returns-in-2 c =
    let a = c.args in let four : length a.f ≡ 4 = search (rules, c.well_formed) in
    others_as a.at a.line a.f a.x a.words.now a.marks.now c.in-2.is (four_changed a.f none a.x 2 four (omega arith) refl refl refl refl) c.store_others-in-2.ensures

pub returns-in_default : goal.returns-in_default
returns-in_default c =
    let a = c.args in let four : length a.f ≡ 4 = search (rules, c.well_formed) in
    others_as a.at a.line a.f a.x a.words.now a.marks.now (last a.k c.requires.2 c.in_default.in_default-own.rest) (four_changed a.f none a.x 3 four (omega arith) refl refl refl refl) c.store_others-in_default.ensures
