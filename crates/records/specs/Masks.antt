-- What the masks of a write-back record mark.
use Rattle.std.specs.Prelude.{ℕ, ◌+◌}
use Rattle.std.specs.Int.Count.{ones}

-- the dirty bytes that four masks mark, one for each bit
abbrev pub dirty_bytes : ℕ → ℕ → ℕ → ℕ → ℕ
dirty_bytes m0 m1 m2 m3 = ones m0 + ones m1 + ones m2 + ones m3
