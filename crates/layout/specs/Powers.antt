-- A power of two up to some number: "power of two, 1 to 256", and 1 to 16, of which model/specs lists the numbers.
use Rattle.std.specs.Prelude.{ℕ, Bool, ◌&&◌, leb}
use Rattle.std.specs.Int.{is_power_of_two}

abbrev pub power_to : ℕ → ℕ → Bool
power_to most n = is_power_of_two n && leb n most
