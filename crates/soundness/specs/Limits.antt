-- What a tree is below: under rule 2 the number of its bits in use, under another rule 1. Nothing here is document 01's.
use Rattle.std.specs.Prelude.{ℕ, ◌-◌, ◌^◌}
use Rattle.words.specs.Words.{pick}
use Rattle.model.specs.Range.{is_tree}
use Rattle.model.specs.declared.Settings.{Settings}

abbrev pub tree_limit : Settings → ℕ
tree_limit S = pick (is_tree S) (2 ^ (S.ways - 1)) 1
