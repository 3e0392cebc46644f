-- A word of the settings and of the numbers in the three slices, said of a `Slices`.
use Rattle.std.specs.Prelude.{ℕ, List}
use Rattle.model.specs.declared.Settings.{Settings}
use Rattle.layout.specs.declared.geometry.Slices.{Slices}

module _ {ℓ} {A : Type ℓ} where
  abbrev pub held : Slices → (Settings → List ℕ → List ℕ → List ℕ → A) → A
  held t word = word t.geometry.settings t.longs.now t.words.now t.marks.now
