-- One of two sectors chosen number by number, four with one of them changed, and one of a line's four.
use Rattle.words.proofs.General.{ℕ, ◌+◌, ◌*◌, ◌<◌, add-zero, ◌≡◌, refl, ap, ◌∙◌, Bool, true, false, List, [], ◌∷◌, length, get_or, set, eqb, pick, four_whole, below_four}
use Rattle.model.proofs.Terms.{sector_at, sectors_at}
use Rattle.model.specs.declared.Settings.{Settings}
use Rattle.model.specs.declared.Sector.{Sector}

pub sector_chosen : (b : Bool) (x y : Sector)
    → record { status = pick b x.status y.status; mask = pick b x.mask y.mask; readable = pick b x.readable y.readable } ≡ pick b x y
sector_chosen true x y = refl
sector_chosen false x y = refl

pub four_changed : (four : List Sector) (e x : Sector) (k : ℕ) → length four ≡ 4 → k < 4 → {a b c d : Sector}
    → a ≡ pick (eqb k 0) x (get_or four 0 e) → b ≡ pick (eqb k 1) x (get_or four 1 e) → c ≡ pick (eqb k 2) x (get_or four 2 e) → d ≡ pick (eqb k 3) x (get_or four 3 e)
    → a ∷ b ∷ c ∷ d ∷ [] ≡ set four k x
four_changed four e x k n h p q r s =
    rw (p, q, r, s)
    (below_four
    (λ i. pick (eqb i 0) x (get_or four 0 e) ∷ pick (eqb i 1) x (get_or four 1 e) ∷ pick (eqb i 2) x (get_or four 2 e) ∷ pick (eqb i 3) x (get_or four 3 e) ∷ []
    ≡ set (get_or four 0 e ∷ get_or four 1 e ∷ get_or four 2 e ∷ get_or four 3 e ∷ []) i x)
    refl refl refl refl k h
    ∙ ap (λ (l : List Sector). set l k x) (four_whole e four n))

-- ---- one of the four sectors of line l

pub sector_of_four : (S : Settings) (words marks : List ℕ) (l k : ℕ) (d : Sector) → k < 4 → get_or (sectors_at S words marks l) k d ≡ sector_at S words marks (4 * l + k)
sector_of_four S words marks l k d h = below_four (λ i. get_or (sectors_at S words marks l) i d ≡ sector_at S words marks (4 * l + i)) (rw add-zero) refl refl refl k h
