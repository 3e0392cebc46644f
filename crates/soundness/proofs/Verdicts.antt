-- What the verdict of `check` tells: which refusal, and what holds if there is none.
use Rattle.std.specs.Prelude.{Result, Ok, Err}
use Rattle.words.proofs.General.{ℕ, arith, ◌≡◌, refl, sym, Bool, true, false, [], pick}
use Rattle.model.specs.declared.Settings.{Settings}
use Rattle.model.specs.declared.Refusal.{Refusal}
use Rattle.model.specs.declared.Refusal.TheVariants.{SettingOutOfRange, SliceLength, NotSound}
use Rattle.model.proofs.Terms.{in_range, Tables, Outcome, refused, done, Lent, lengths_fit, tables_of, sound_lent, encoded, call, check_call, verdict_of}

-- the three checks in front of an outcome
abbrev pub three_checks : Bool → Bool → Bool → Outcome Lent → Outcome Lent
three_checks r l s o = pick r (pick l (pick s o (refused NotSound)) (refused SliceLength)) (refused SettingOutOfRange)

never : {X : Type 0} {n : Refusal} → ◌≡◌ {A = Result (Unit {0}) Refusal} (Err n) (Ok tt) → X
never e = let z : ◌≡◌ {A = ℕ} 0 1 = cc in absurd (omega arith)

all_pass : (r l s : Bool) (L : Lent) → verdict_of (three_checks r l s (done [] L)) ≡ Ok tt → (r ≡ true) × (l ≡ true) × (s ≡ true)
all_pass true true true L e = (refl, refl, refl)
all_pass true true false L e = never e
all_pass true false s L e = never e
all_pass false l s L e = never e

first_refuses : (r l s : Bool) (L : Lent) (o : Outcome Lent) (n : Refusal) → verdict_of (three_checks r l s (done [] L)) ≡ Err n → three_checks r l s o ≡ refused n
first_refuses true true true L o n e = never (sym e)
first_refuses true true false L o n e = cc
first_refuses true false s L o n e = cc
first_refuses false l s L o n e = cc

module _ (S : Settings) (L : Lent) where
  -- ---- what it tells

  pub passed_is : verdict_of (check_call S L) ≡ Ok tt → (in_range S ≡ true) × (lengths_fit S L ≡ true) × (sound_lent S L ≡ true)
  passed_is e = all_pass (in_range S) (lengths_fit S L) (sound_lent S L) L e

  pub refused_is : (n : Refusal) → verdict_of (check_call S L) ≡ Err n → (step : Tables → Outcome Tables) → call S step L ≡ refused n
  unfolding call
  refused_is n e step = first_refuses (in_range S) (lengths_fit S L) (sound_lent S L) L (encoded S (step (tables_of S L))) n e
