-- Those passed are in range.
use Rattle.words.proofs.General.{◌≡◌, map, drop}
use Rattle.model.proofs.Terms.{settings_in}
use Rattle.wording.specs.Settings.{last_words, outside_words, ranged_words}
use Rattle.wording.specs.Shown.{range_of}
use Rattle.wording.proofs.settings.put_ranged.Given as goal

abbrev pub invariant-loop-x : goal.invariant-loop-x
invariant-loop-x l =
    (l.out ≡ l.initial.out)
    × (ranged_words l.b ≡ outside_words (drop l.x-index (map range_of l.x-items)) (last_words (settings_in l.b).ways (settings_in l.b).rule))
