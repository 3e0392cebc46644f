-- What the rounds and the struck rounds leave to a caller from C: nothing without a slice of two numbers, else what the call showed.
use Rattle.std.specs.Prelude.{Result}
use Rattle.words.proofs.General.{ℕ, ◌≡◌, List, [], ◌∷◌, length, eq-eqb, ne_eqb}
use Rattle.model.proofs.Terms.{Lent}
use Rattle.model.specs.RecordsOf as records
use Rattle.rounds.specs.Demand3.{RoundsShown, rounds_shown}
use Rattle.rounds.specs.declared.Went.{Went}
use Rattle.rounds.specs.declared.NotRun.{NotRun}
use Rattle.exported.specs.Demand3.{went_number, rounds_run, bytes_written, ShownCalled, FlagsCalled}

module _ (k : List ℕ) where
  module _ (h : length k ≡ 2 → ⊥) where
    pub uncalled : (o : RoundsShown) (L : Lent) (e : List ℕ) → ShownCalled o L e k 2 e k L
    unfolding records.events_in records.events_from
    uncalled o L e = let q = ne_eqb (length k) 2 h in record { says = rw q; counts = rw q; events = rw q; reads = rw q; left = rw q }

    pub unflagged : (gl fl : List ℕ) → FlagsCalled gl fl k fl
    unflagged gl fl = record { flags = rw (ne_eqb (length k) 2 h) }

  module _ (two : length k ≡ 2) where
    pub called : (L : Lent) (e : List ℕ) {w : Result Went NotRun} {M : Lent} {f : List ℕ} {o : RoundsShown} → rounds_shown w M f ≡ o → {r : ℕ} {j : List ℕ}
        → r ≡ went_number w → j ≡ rounds_run w ∷ bytes_written w ∷ [] → ShownCalled o L e k r f j M
    called L e s a b =
        let q = eq-eqb (length k) 2 two in
        rw (← s) record {
          says = rw q a;
          counts = rw q b;
          events = rw q;
          reads = rw q;
          left = rw q;
        }

    pub flagged : (fl : List ℕ) {gl hl : List ℕ} → hl ≡ gl → FlagsCalled gl fl k hl
    flagged fl e = record { flags = rw (eq-eqb (length k) 2 two) e }
