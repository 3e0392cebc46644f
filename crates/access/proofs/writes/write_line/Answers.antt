use Rattle.access.proofs.writes.write_line.Goals as goal

pub returns : goal.returns
returns c = rw (c.write_tag.ensures, c.store.ensures.0, c.store.ensures.1, c.touch.ensures)
