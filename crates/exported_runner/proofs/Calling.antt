-- What a run called from C leaves: nothing without a slice of two numbers, else what the run left, and its counts.
use Rattle.words.proofs.General.{ℕ, ◌≡◌, ap, ◌∙◌, List, [], ◌∷◌, length, eq-eqb, ne_eqb}
use Rattle.model.proofs.Terms.{stop_number, Lent, RunResult, Runs}
use Rattle.model.specs.declared.Ran.{Ran}
use Rattle.exported_runner.specs.Called.{RunCalled}

module _ (o : RunResult Lent) (L : Lent) (e k : List ℕ) where
  pub run-no_counts : (length k ≡ 2 → ⊥) → RunCalled o L e k 2 e k L
  run-no_counts h = let q = ne_eqb (length k) 2 h in record { stop = rw q; events = rw q; counts = rw q; left = rw q }

  pub run_made : length k ≡ 2 → {r : Ran} {f j : List ℕ} {M : Lent} → Runs o e r f M → {n : ℕ} → (n ≡ stop_number r.stop) × (j ≡ r.consumed ∷ r.written ∷ [])
      → RunCalled o L e k n f j M
  run_made two {r} w g =
      let q = eq-eqb (length k) 2 two in
      record {
        stop = rw q (g.0 ∙ ap stop_number w.stop);
        events = rw q w.events;
        counts = rw q (g.1 ∙ (rw (w.consumed, w.written)));
        left = rw q w.tables;
      }
