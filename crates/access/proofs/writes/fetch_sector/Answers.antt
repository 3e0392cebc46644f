-- Whether the line is dirty then: as it was, if its sector was INVALID; else as the four say.
use Rattle.words.proofs.General.{◌≡◌, refl, sym, ◌∙◌}
use Rattle.model.proofs.Terms.{on_sector}
use Rattle.access.proofs.Sectors.{sector-read, fetched_stays, sector_left}
use Rattle.access.proofs.writes.fetch_sector.Goals as goal

pub returns-then-is_invalid : goal.returns-then-is_invalid
returns-then-is_invalid c =
    let a = c.args in
    let o = a.o in
    let d = o.decision in
    let fetched : c.read_sector-one.result ≡ on_sector a.o.access a.o.decision.answer c.own_sector-own.result = sector-read o.access d.answer c.requires.1 c.read_sector-one.ensures refl in
    let was = sym c.is_invalid.ensures ∙ c.if-is_invalid.true in
    sector_left a.g.settings a.words.now a.marks.now o.access d.answer d.line c.own_sector-own.ensures fetched
    a.g.at c.address_of-address.ensures c.sector_index-k.ensures.0
    (fetched_stays a.g.settings a.words.now a.marks.now o.access d.answer d.line c.own_sector-own.ensures fetched
    c.is_dirty-was.ensures c.requires.1 was)
    c.change.ensures

pub returns-else-is_invalid : goal.returns-else-is_invalid
returns-else-is_invalid c =
    let a = c.args in
    let o = a.o in
    let d = o.decision in
    let fetched : c.read_sector-one.result ≡ on_sector a.o.access a.o.decision.answer c.own_sector-own.result = sector-read o.access d.answer c.requires.1 c.read_sector-one.ensures refl in
    sector_left a.g.settings a.words.now a.marks.now o.access d.answer d.line c.own_sector-own.ensures fetched
    a.g.at c.address_of-address.ensures c.sector_index-k.ensures.0
    (c.some_modified-is.ensures ∙ rw (c.with_sector-left.ensures, c.lift-four.ensures, c.sector_number.ensures.0, c.address_of-address.ensures)) c.change-else-is_invalid.ensures
