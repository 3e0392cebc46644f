-- What the call that makes tables fresh comes to: refusals 1 and 2, or fresh tables.
use Rattle.std.specs.Prelude.{Ok, Err}
use Rattle.words.proofs.General.{◌≡◌, refl, true, false}
use Rattle.model.specs.declared.Settings.{Settings}
use Rattle.model.specs.declared.Refusal.TheVariants.{SettingOutOfRange, SliceLength}
use Rattle.model.proofs.Terms.{in_range, start, Lent, lengths_fit, encode, fresh_call}
use Rattle.cache.specs.Made.{LeavesVerdict}

module _ (S : Settings) (L : Lent) where
  pub fresh_out_of_range : in_range S ≡ false → LeavesVerdict (fresh_call S L) L (Err SettingOutOfRange) L
  fresh_out_of_range r = rw r record { says = refl; left = refl }

  module _ (range : in_range S ≡ true) where
    pub fresh-other-length : lengths_fit S L ≡ false → LeavesVerdict (fresh_call S L) L (Err SliceLength) L
    fresh-other-length l = rw (range, l) record { says = refl; left = refl }

    pub fresh-made : lengths_fit S L ≡ true → {M : Lent} → M ≡ encode S (start S) → LeavesVerdict (fresh_call S L) L (Ok tt) M
    fresh-made l e = rw (range, l) record { says = refl; left = e }
