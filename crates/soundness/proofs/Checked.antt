-- The verdict of refusals 1, 2 and 3 with the layout: which it is, and what holds where it passes.
use Rattle.words.proofs.General.{◌≡◌, sym, ap, ◌∙◌, subst}
use Rattle.std.specs.Prelude.{Result, Ok, Err}
use Rattle.model.specs.declared.Settings.{Settings}
use Rattle.model.specs.declared.Refusal.{Refusal}
use Rattle.model.proofs.Terms.{Lent, tables_of, Small, check_call, verdict_of, Encodes, SoundSlices}
use Rattle.encoding.proofs.Bridge.{sound-encoded}
use Rattle.layout.specs.Layout.{LaysOut}
use Rattle.layout.specs.declared.geometry.Geometry.{Geometry}
use Rattle.soundness.specs.Laid.{Checks, verdict_in}
use Rattle.soundness.proofs.Verdicts.{passed_is}

module _ (S : Settings) (L : Lent) {v : Result Geometry Refusal} (checks : Checks S L v) where
  pub says_refused : {n : Refusal} → v ≡ Err n → verdict_of (check_call S L) ≡ Err n
  says_refused e = sym checks.says ∙ ap verdict_in e

  pub says_passed : {g : Geometry} → v ≡ Ok g → verdict_of (check_call S L) ≡ Ok tt
  says_passed e = sym checks.says ∙ ap verdict_in e

  module _ (small : Small L) {g : Geometry} (passed : v ≡ Ok g) where
    pub passed-tables : Encodes S L (tables_of S L)
    passed-tables = let (range, fits, soundly) = passed_is S L (says_passed passed) in sound-encoded S L range fits small soundly

    pub passed-held : SoundSlices S L
    passed-held = record { tables = tables_of S L; are = passed-tables }

    -- what the inner steps ask, of these settings and of those that the geometry holds
    pub passed-own : SoundSlices g.settings L
    passed-own = subst (λ s. SoundSlices s L) (sym (checks.own g passed)) passed-held

    pub passed-laid : LaysOut S g.at × SoundSlices S L
    passed-laid = (subst (λ s. LaysOut s g.at) (checks.own g passed) g.laid, passed-held)
