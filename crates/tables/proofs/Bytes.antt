-- Four bytes as one number: it is zero exactly if each of them is, so that one test asks all statuses of a line.
use Rattle.words.proofs.General.{ℕ, zero, suc, ◌+◌, ◌*◌, arith, ◌≡◌, refl, sym, ◌∙◌, Bool, ◌&&◌, and_assoc, List, eqb, ne_eqb}
use Rattle.model.proofs.Terms.{status_at}
use Rattle.tables.specs.Raw.{four_bytes, statuses_at, unused_at}

-- a number is zero if its low byte is and the rest
zero_both : (a b : ℕ) → eqb (a * 256 + b) 0 ≡ (eqb b 0 && eqb a 0)
zero_both zero zero = refl
zero_both (suc a) zero = ne_eqb (suc a * 256 + 0) 0 (λ q. omega arith) ∙ sym (ne_eqb (suc a) 0 (λ q. omega arith))
zero_both a (suc b) = rw (ne_eqb (suc b) 0 (λ q. omega arith)) (ne_eqb (a * 256 + suc b) 0 (λ q. omega arith))

pub zero_four : (a b c d : ℕ) → eqb (four_bytes a b c d) 0 ≡ (eqb d 0 && (eqb c 0 && (eqb b 0 && eqb a 0)))
zero_four a b c d =
    rw (zero_both ((a * 256 + b) * 256 + c) d, zero_both (a * 256 + b) c, zero_both a b)

pub and_left : (a b c d : Bool) → (a && (b && (c && d))) ≡ (a && b && c && d)
and_left a b c d = simp and_assoc

pub unused_statuses : (marks : List ℕ) (l : ℕ) → eqb (statuses_at marks l) 0 ≡ unused_at marks l
unused_statuses marks l =
    zero_four (status_at marks (4 * l + 3)) (status_at marks (4 * l + 2)) (status_at marks (4 * l + 1)) (status_at marks (4 * l))
    ∙ and_left (eqb (status_at marks (4 * l)) 0) (eqb (status_at marks (4 * l + 1)) 0) (eqb (status_at marks (4 * l + 2)) 0) (eqb (status_at marks (4 * l + 3)) 0)
