-- `compare::listing::Listing::list_all` ends: each turn leaves less, or is the last.
use Rattle.words.proofs.General.{◌+◌, pick}
use Rattle.compare.specs.Turns.{left_in_pass}
use Rattle.compare.proofs.listing.Listing.list_all.Given as goal

abbrev pub decreases-loop-more : goal.decreases-loop-more
decreases-loop-more l = pick l.more (1 + left_in_pass l.self.pairs) 0
