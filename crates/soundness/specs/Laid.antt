-- Refusals 1, 2 and 3 with the layout that they are asked by.
use Rattle.std.specs.Prelude.{◌≡◌, Result, Ok, Err}
use Rattle.model.specs.Lent.{Lent}
use Rattle.model.specs.Calls.{check_call, verdict_of}
use Rattle.model.specs.declared.Settings.{Settings}
use Rattle.model.specs.declared.Refusal.{Refusal}
use Rattle.layout.specs.declared.geometry.Geometry.{Geometry}

abbrev pub verdict_in : Result Geometry Refusal → Result (Unit {0}) Refusal
verdict_in (Ok g) = Ok tt
verdict_in (Err n) = Err n

-- r is the check's verdict on the slices L, and where it passes, the geometry of the settings
pub record Checks (S : Settings) (L : Lent) (r : Result Geometry Refusal) : Type 0 where
  pub says : verdict_in r ≡ verdict_of (check_call S L)
  pub own : (g : Geometry) → r ≡ Ok g → g.settings ≡ S
