-- L3, "on sound tables no answer changes": what an access met and came to before the tables kept the count, by the dirty lines of the
-- whole cache, counted. That it is the same on sound tables is in proofs.
use Rattle.words.specs.Words.{pick}
use Rattle.model.specs.Address.{address_of, well_formed}
use Rattle.model.specs.Tables.{Tables, Outcome, refused, dirty_lines}
use Rattle.model.specs.Probe.{Place, probe, rule_of, ways_of}
use Rattle.model.specs.Steps.{proceed}
use Rattle.model.specs.declared.Settings.{Settings}
use Rattle.model.specs.declared.Access.{Access}
use Rattle.model.specs.declared.Refusal.TheVariants.{BadAccess}

abbrev pub met_counting : Settings → Access → Tables → Place
met_counting S x t = probe (rule_of S t (address_of x)) S (dirty_lines t) (ways_of S t.lines (address_of x)) x

unfoldable pub access_counting : Settings → Access → Tables → Outcome Tables
access_counting S x t = pick (well_formed x) (proceed S x t (met_counting S x t)) (refused BadAccess)
