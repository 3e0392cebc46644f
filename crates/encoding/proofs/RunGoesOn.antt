-- A run that goes on: what its check passes; on the encoding of sound tables it is the run on those tables.
use Rattle.std.specs.Prelude.{Option}
use Rattle.words.proofs.General.{ℕ, ◌≡◌, refl, true, false, List, clash, by_flag}
use Rattle.model.proofs.Terms.{in_range, Tables, Lent, lengths_fit, tables_of, sound_lent, Small, kept_stop, goes_on, halt, run_from, lent_result, resume, Encodes}
use Rattle.model.specs.RunnerOf as runner
use Rattle.model.specs.declared.Settings.{Settings}
use Rattle.model.specs.declared.Stop.{Stop}
use Rattle.encoding.proofs.Bridge.{sound-encoded, is_fits, is_sound-lent, is_tables}

pub record Kept (S : Settings) (L : Lent) : Type 0 where
  pub range : in_range S ≡ true
  pub fits : lengths_fit S L ≡ true
  pub soundly : sound_lent S L ≡ true

pub kept : (S : Settings) (L : Lent) → goes_on (kept_stop S L) ≡ true → Kept S L
kept S L =
    by_flag Goes (in_range S) _ _
    (λ a. by_flag Goes (lengths_fit S L) _ _
    (λ b. by_flag Goes (sound_lent S L) _ _ (λ c h. record { range = a; fits = b; soundly = c }) (λ c h. clash h refl))
    (λ b h. clash h refl))
    (λ a h. clash h refl)
  where
    Goes : Option Stop → Type 0
    Goes n = goes_on n ≡ true → Kept S L

-- the tables that the slices hold; the words are 32-bit numbers, which the code knows of any slice
pub kept_is : (S : Settings) (L : Lent) → Small L → goes_on (kept_stop S L) ≡ true → Encodes S L (tables_of S L)
kept_is S L small h = let k = kept S L h in sound-encoded S L k.range k.fits small k.soundly

module _ (S : Settings) (room : ℕ) (s : List ℕ) (L : Lent) where
  pub resume_stops : goes_on (kept_stop S L) ≡ false → resume S room s L ≡ halt (kept_stop S L) L
  unfolding runner.resume
  resume_stops z = rw z

  pub resume-goes : goes_on (kept_stop S L) ≡ true → resume S room s L ≡ lent_result S (run_from S 0 room s (tables_of S L))
  unfolding runner.resume
  resume-goes z = rw z

  -- nothing stops a run that goes on from what sound tables are encoded as
  module _ (t : Tables) (is : Encodes S L t) where
    pub resume-is : resume S room s L ≡ lent_result S (run_from S 0 room s t)
    unfolding runner.resume
    resume-is = rw (is.range, is_fits S L t is, is_sound-lent S L t is, is_tables S L t is)
