-- What an exported run writes reads back: the records in the bytes written are the events of the definition, in order. Of any bytes; of a part
-- that goes on, on slices of 32-bit words.
use Rattle.words.proofs.General.{ℕ, ◌≡◌, refl, ap, ◌∙◌, true, List, [], ◌∷◌, length, take, get_or, eq-eqb}
use Rattle.model.proofs.Terms.{Lent, events_in, parsed, RunResult, run, resume, Runs}
use Rattle.model.specs.declared.Settings.{Settings}
use Rattle.model.specs.declared.Ran.{Ran}
use Rattle.model.proofs.RunSound.{bytes}
use Rattle.encoding.proofs.DecodeIsSound.{Small}
use Rattle.runner.specs.Told.{run_told, resume_told}
use Rattle.runner.proofs.ReadBack.{run_reads_back, resume_reads_back}
use Rattle.exported_runner.specs.Called.{RunCalled}

-- of the two counts the second is the bytes written
module _ (o : RunResult Lent) {L : Lent} {e k : List ℕ} {r : ℕ} {f j : List ℕ} {M : Lent} (two : length k ≡ 2) (c : RunCalled o L e k r f j M) where
  abbrev ran : Ran
  ran = record { stop = o.stop; consumed = o.consumed; written = length o.events }

  runs : Runs o e ran f M
  runs =
      let q = eq-eqb (length k) 2 two in
      record { stop = refl; consumed = refl; written = refl; events = c.events ∙ (rw q); tables = c.left ∙ (rw q) }

  counted : get_or j 1 0 ≡ length o.events
  counted =
      let q = eq-eqb (length k) 2 two in
      let e : j ≡ o.consumed ∷ length o.events ∷ [] = c.counts ∙ (rw q) in
      ap (λ (l : List ℕ). get_or l 1 0) e

module _ (s : List ℕ) (L : Lent) (given : bytes s ≡ true) {e k : List ℕ} {r : ℕ} {f j : List ℕ} {M : Lent} (two : length k ≡ 2) where
  pub run_called_back : RunCalled (run (length e) s L) L e k r f j M → events_in (take (get_or j 1 0) f) ≡ parsed (run_told (length e) s L)
  run_called_back c = let o = run (length e) s L in rw (counted o two c) (run_reads_back s L given (runs o two c))

  pub resume_called_back : (S : Settings) → Small L → RunCalled (resume S (length e) s L) L e k r f j M
      → events_in (take (get_or j 1 0) f) ≡ parsed (resume_told S (length e) s L)
  resume_called_back S small c = let o = resume S (length e) s L in rw (counted o two c) (resume_reads_back S s L small given (runs o two c))
