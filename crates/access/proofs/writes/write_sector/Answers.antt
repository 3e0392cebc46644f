-- Whether the line is dirty then: as it was, if the write merges; else it is.
use Rattle.words.proofs.General.{rules, told-yes, told-no}
use Rattle.access.proofs.Sectors.{merged_stays, written-dirty, sector_left}
use Rattle.access.proofs.writes.write_sector.Goals as goal

pub returns-then-is_merge : goal.returns-then-is_merge
returns-then-is_merge c = search (rules, sector_left, merged_stays, told-yes)

pub returns-else-is_merge : goal.returns-else-is_merge
returns-else-is_merge c = search (rules, sector_left, written-dirty, told-no)
