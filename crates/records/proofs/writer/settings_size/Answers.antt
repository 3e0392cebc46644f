-- By the case of the rule: the size is the length of its bytes, and the numbers are in range.
use Rattle.words.proofs.General.{rules}
use Rattle.model.specs.RecordsOf as records
use Rattle.model.proofs.Terms.{bytes_of}
use Rattle.records.proofs.writer.settings_size.Goals as goal

pub returns-in-None : goal.returns-in-None
unfolding records.command_bytes bytes_of
returns-in-None c = rw c.in-None.is (search rules)

pub returns-in-Some : goal.returns-in-Some
unfolding records.command_bytes bytes_of
returns-in-Some c = rw c.in-Some.is (search rules)
