-- What a comparison's result says.
use Rattle.std.specs.Prelude.{◌≡◌, Bool, true}

abbrev pub Tells : {T : Type 0} → T → T → Bool → Type 0
Tells a b r = (r ≡ true → a ≡ b) × (a ≡ b → r ≡ true)
