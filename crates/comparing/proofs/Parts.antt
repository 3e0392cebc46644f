-- What the code sees of a log, by the tests that it makes: the next record's length, the next two records.
use Rattle.words.proofs.General.{ℕ, suc, ◌+◌, ◌-◌, arith, ◌≡◌, Bool, false, ◌&&◌, List, length, get_or, take, drop}
use Rattle.words.proofs.General.{eqb, leb, ltb}
use Rattle.model.proofs.Terms.{length_of}
use Rattle.comparing.specs.declared.Walk.{Walk}
use Rattle.comparing.specs.declared.Step.TheVariants as step
use Rattle.comparing.specs.Groups.{record_end}
use Rattle.comparing.specs.Pairs.{same_bytes}
use Rattle.comparing.specs.Steps.{onward, record_row}

-- what the code asks of the next record's length
pub whole_test : (s : List ℕ) {n : ℕ} → n ≡ length_of (get_or s 0 0) → leb (record_end s 0) (length s) ≡ ltb n (length s)
unfolding record_end
whole_test s {n} l = let e : 0 + 1 + length_of (get_or s 0 0) ≡ suc n = omega arith in rw e

pub row_next : (w : Walk) (a b : List ℕ) (m n : ℕ) → (eqb m 0 && eqb n 0) ≡ false → {c d : List ℕ} → c ≡ take (m - 0) (drop 0 a) → d ≡ take (n - 0) (drop 0 b) → {u : Bool} → u ≡ same_bytes c d → {v : Walk} → v ≡ onward w m n u
    → step.Row m n u v ≡ record_row w a b m n
unfolding record_row
row_next w a b m n q i j e p = let x : m - 0 ≡ m = omega arith in let y : n - 0 ≡ n = omega arith in rw (q, p, e, i, j, x, y)
