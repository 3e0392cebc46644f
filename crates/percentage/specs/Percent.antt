-- Document 02, L11: the dirty percentage "in 32-bit floats", and the engine's rule beside it. The answers with their refusal; the sizes that
-- settings in range allow.
use Rattle.std.specs.Prelude.{ℕ, ◌≤◌, ◌≡◌, Bool, true, false, ◌&&◌, leb, pos, Float, Result, Ok, Err}
use Rattle.std.specs.Float.{binary32}
use Rattle.std.specs.Float.Ieee.{div, mul, le, of_int}
use Rattle.model.specs.Probe.{enough_dirty}
use Rattle.model.specs.Range as range
use Rattle.model.specs.declared.Settings.{Settings}
use Rattle.model.specs.declared.Refusal.{Refusal}
use Rattle.model.specs.declared.Refusal.TheVariants.{SettingOutOfRange}

-- ---- the two answers

-- a whole number as an f32
abbrev pub as_single : ℕ → Float
as_single n = of_int binary32 (pos n)

-- "dirty divided by lines, times 100", "each step rounded once"
unfoldable pub percent_of : ℕ → ℕ → Float
percent_of d l = mul binary32 (div binary32 (as_single d) (as_single l)) (as_single 100)

-- "whether that is at least P"
unfoldable pub float_meets : ℕ → ℕ → ℕ → Bool
unfolding percent_of
float_meets d l p = le (as_single p) (percent_of d l)

-- settings with these sets, ways and P, the others the least in range; as one set of any number of ways they put any size to the engine's rule
abbrev pub cache_of : ℕ → ℕ → ℕ → Settings
cache_of s w p = record { sets = s; ways = w; dirty = p; misses = 1; readers = 1; queue = 2; rule = 0 }

-- ours: the engine's own rule
unfoldable pub whole_meets : ℕ → ℕ → ℕ → Bool
whole_meets d l p = enough_dirty (cache_of 1 l p) d

-- ---- the refusal

-- "dirty from 0 to lines and lines from 1 to 1,024", "P from 0 to 100"
abbrev pub percent_in_range : ℕ → ℕ → ℕ → Bool
percent_in_range d l p = leb 1 l && leb l 1024 && leb d l && leb p 100

-- the same as facts
pub record PercentRanged (d l p : ℕ) : Type 0 where
  pub some : 1 ≤ l
  pub most : l ≤ 1024
  pub part : d ≤ l
  pub cent : p ≤ 100

-- "1 for P or lines out of range or dirty above lines"
abbrev pub out_of_range : Refusal
out_of_range = SettingOutOfRange

abbrev pub share_of : Bool → Bool → Result Bool Refusal
share_of true b = Ok b
share_of false b = Err out_of_range

-- ---- whether settings in range have this many lines
abbrev pub Legal : ℕ → Bool → Type 0
Legal l true = (S : Settings) × (range.in_range S ≡ true) × (range.lines_of S ≡ l)
Legal l false = (S : Settings) → range.in_range S ≡ true → range.lines_of S ≡ l → ⊥
