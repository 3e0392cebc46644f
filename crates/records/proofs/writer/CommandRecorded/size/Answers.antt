-- By the case: the size is the length of its bytes, and the bound numbers are in range.
use Rattle.words.proofs.General.{rules}
use Rattle.model.specs.RecordsOf as records
use Rattle.model.proofs.Terms.{bytes_of}
use Rattle.records.proofs.writer.CommandRecorded.size.Goals as goal

pub returns-in-Read : goal.returns-in-Read
unfolding records.command_bytes bytes_of
returns-in-Read c = rw c.in-Read.is (search rules)

pub returns-in-Write : goal.returns-in-Write
unfolding records.command_bytes bytes_of
returns-in-Write c = rw c.in-Write.is (search rules)

pub returns-in-Send : goal.returns-in-Send
unfolding records.command_bytes bytes_of
returns-in-Send c = rw c.in-Send.is (search rules)

pub returns-in-Fill : goal.returns-in-Fill
unfolding records.command_bytes bytes_of
returns-in-Fill c = rw c.in-Fill.is (search rules)

pub returns-in-Tick : goal.returns-in-Tick
unfolding records.command_bytes bytes_of
returns-in-Tick c = rw c.in-Tick.is (search rules)
