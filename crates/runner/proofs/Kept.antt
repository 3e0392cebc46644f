-- A run that goes on from kept tables: stopped by the check before it, or run from the tables that the slices hold.
use Rattle.std.specs.Prelude.{Ok, Err, Option, Some, None}
use Rattle.words.proofs.General.{ℕ, sub-zero, zero-add, arith, ◌≡◌, refl, ◌∙◌, subst, Bool, true, false, List, [], length, pick}
use Rattle.model.proofs.Terms.{in_range, done, Lent, lengths_fit, tables_of, sound_lent, verdict_of, goes_on, resume, Runs}
use Rattle.model.specs.declared.Settings.{Settings}
use Rattle.model.specs.declared.Refusal.{Refusal}
use Rattle.model.specs.declared.Refusal.TheVariants as refusal
use Rattle.model.specs.declared.Stop.{Stop}
use Rattle.model.specs.declared.Stop.TheVariants as stop
use Rattle.model.specs.declared.Ran.{Ran}
use Rattle.encoding.proofs.DecodeIsSound.{Small}
use Rattle.encoding.proofs.RunGoesOn.{resume_stops, resume-is}
use Rattle.soundness.specs.Laid.{Checks}
use Rattle.std.specs.Prelude.{Result, Ok, Err}
use Rattle.layout.specs.declared.geometry.Geometry.{Geometry}
use Rattle.soundness.proofs.Verdicts.{three_checks}
use Rattle.soundness.proofs.Checked.{says_refused, passed-tables}
use Rattle.running.specs.Resume.{rest_from, RunAt, Resumes}
use Rattle.runner.specs.Stops.{stop_of}

-- ---- the stop of a refusal

-- what the three checks stop with
abbrev stopping : Bool → Bool → Bool → Option Stop
stopping r l s = pick r (pick l (pick s None (Some stop.NotSound)) (Some stop.SliceLength)) (Some stop.SettingOutOfRange)

refusal_stops : (r l s : Bool) (L : Lent) (n : Refusal) → verdict_of (three_checks r l s (done [] L)) ≡ Err n
    → (Some (stop_of n) ≡ stopping r l s) × (goes_on (stopping r l s) ≡ false)
refusal_stops true true true L n e = let z : ◌≡◌ {A = ℕ} 0 1 = cc in absurd (omega arith)
refusal_stops true true false L n e = let z : refusal.NotSound ≡ n = cc in (rw (← z), refl)
refusal_stops true false s L n e = let z : refusal.SliceLength ≡ n = cc in (rw (← z), refl)
refusal_stops false l s L n e = let z : refusal.SettingOutOfRange ≡ n = cc in (rw (← z), refl)

-- ---- the run

pub resume_stands : (s e : List ℕ) → RunAt s 0 0 e
resume_stands s e = record { inside = omega arith; room = omega arith }

module _ (S : Settings) (s e : List ℕ) (L : Lent) {v : Result Geometry Refusal} (checks : Checks S L v) where
  pub resume_stopped : {n : Refusal} {m : Option Stop} → v ≡ Err n → m ≡ Some (stop_of n)
      → Runs (resume S (length e) s L) e record { stop = m; consumed = 0; written = 0 } e L
  resume_stopped {n} is d =
      let (same, z) = refusal_stops (in_range S) (lengths_fit S L) (sound_lent S L) L n (says_refused S L checks is) in
      rw (resume_stops S (length e) s L z) record { stop = d ∙ same; consumed = refl; written = refl; events = refl; tables = refl }

  -- the records run by the settings that the geometry holds
  pub resume_went : Small L → {g : Geometry} → v ≡ Ok g → {p : Ran} {f : List ℕ} {M : Lent} → Resumes g.settings (rest_from g.settings s 0 0 e) s 0 0 e L p f M
      → Runs (resume S (length e) s L) e p f M
  resume_went small is {p} {f} {M} u =
      let are = passed-tables S L checks small is in
      let own : Resumes S (rest_from S s 0 0 e) s 0 0 e L p f M = subst (λ S'. Resumes S' (rest_from S' s 0 0 e) s 0 0 e L p f M) (checks.own _ is) u in
      rw (resume-is S (length e) s L (tables_of S L) are) (rw (sub-zero, zero-add) at (own.on (tables_of S L) are))
