-- "The modelled cache": the settings in range.
use Rattle.std.specs.Prelude.{ℕ, ◌*◌, Bool, ◌&&◌, ◌||◌, [], ◌∷◌, eqb, leb}
use Rattle.words.specs.Words.{any, within}
use Rattle.model.specs.Tree.{power_to16}
use Rattle.model.specs.declared.Settings.{Settings}

-- "power of two, 1 to 256"
abbrev pub power_to256 : ℕ → Bool
power_to256 n = any (eqb n) (1 ∷ 2 ∷ 4 ∷ 8 ∷ 16 ∷ 32 ∷ 64 ∷ 128 ∷ 256 ∷ [])

-- lines = sets × ways
abbrev pub lines_of : Settings → ℕ
lines_of S = S.sets * S.ways

-- "0 for least recently used, 1 for first in first out" (L1), "rule byte 2: each set has a binary tree over its ways" (L9)
abbrev pub is_fifo : Settings → Bool
is_fifo S = eqb S.rule 1

abbrev pub is_tree : Settings → Bool
is_tree S = eqb S.rule 2

-- "1 for rule 2 unless ways is a power of two"
abbrev pub rule_fine : Settings → Bool
rule_fine S = leb S.rule 1 || (is_tree S && power_to16 S.ways)

-- the table of settings: sets, ways, dirty percent P, miss table entries M, readers per entry W, miss queue Q; the rule
unfoldable pub in_range : Settings → Bool
in_range S =
    power_to256 S.sets
    && within 1 16 S.ways
    && leb (lines_of S) 1024
    && leb S.dirty 100
    && within 1 64 S.misses
    && within 1 8 S.readers
    && within 2 64 S.queue
    && rule_fine S
