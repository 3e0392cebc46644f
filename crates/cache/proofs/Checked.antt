-- A call behind the check of refusals 1, 2 and 3: refused, it tells the number and leaves the slices; passed, it is its step.
use Rattle.words.proofs.General.{◌≡◌, subst}
use Rattle.model.specs.declared.Settings.{Settings}
use Rattle.model.specs.declared.Refusal.{Refusal}
use Rattle.model.specs.declared.Event.TheVariants as event
use Rattle.model.specs.declared.Reply.{Reply}
use Rattle.model.proofs.Terms.{Tables, Outcome, Lent, tables_of, Small, call, Leaves, Does}
use Rattle.encoding.proofs.Bridge.{call_is}
use Rattle.soundness.specs.Laid.{Checks}
use Rattle.std.specs.Prelude.{Result, Ok, Err}
use Rattle.layout.specs.declared.geometry.Geometry.{Geometry}
use Rattle.soundness.proofs.Verdicts.{refused_is}
use Rattle.soundness.proofs.Checked.{says_refused, passed-tables}
use Rattle.tables.specs.Telling.{telling}
use Rattle.tables.proofs.Tellings.{refusal_leaves}

module _ (S : Settings) (L : Lent) {v : Result Geometry Refusal} (checks : Checks S L v) where
  pub call-refused : (step : Tables → Outcome Tables) {n : Refusal} {r : Reply} → v ≡ Err n → r ≡ telling (event.Refused n) → Leaves (call S step L) L r L
  call-refused step {n} e f = rw (refused_is S L n (says_refused S L checks e) step, f) (refusal_leaves n L)

  -- the step is by the settings that the geometry holds
  pub call-passed : Small L → {g : Geometry} → v ≡ Ok g → (step : Settings → Tables → Outcome Tables) {r : Reply} {M : Lent} → Does g.settings (step g.settings) L r M
      → Leaves (call S (step S) L) L r M
  call-passed small passed step {r} {M} d =
      let are = passed-tables S L checks small passed in
      let own : Does S (step S) L r M = subst (λ s. Does s (step s) L r M) (checks.own _ passed) d in
      rw (call_is S L (tables_of S L) are (step S)) (own.on (tables_of S L) are)
