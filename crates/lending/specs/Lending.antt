-- Settings as C lends them, one slice of numbers.
use Rattle.std.specs.Prelude.{ℕ, Bool, List, [], length, get_or}
use Rattle.words.specs.Words.{pick, within}
use Rattle.model.specs.declared.Settings.{Settings}

-- by its places, in the order of the table of settings: sets, ways, dirty, misses, readers, queue; then the rule (L1)
abbrev pub numbered : List ℕ → Settings
numbered l = record { sets = get_or l 0 0; ways = get_or l 1 0; dirty = get_or l 2 0; misses = get_or l 3 0; readers = get_or l 4 0; queue = get_or l 5 0; rule = get_or l 6 0 }

-- how many numbers may be lent. A setting that is added later comes last: its number joins this one, and `get_or` gives a slice without it its
-- older default
abbrev pub may_lend : ℕ → Bool
may_lend n = within 6 7 n

-- with another number of them all are 0, and 0 sets are out of range: so it is refused as 1, "a setting outside its range"
unfoldable pub settings_from : List ℕ → Settings
settings_from l = pick (may_lend (length l)) (numbered l) (numbered [])
