-- By the case: nothing, or the byte.
use Rattle.model.proofs.Terms.{bytes_of, rule_bytes}
use Rattle.records.proofs.Stores.{laid_as}
use Rattle.records.proofs.Encoding.{byte_as, case-room, case-laid}
use Rattle.records.proofs.writer.put_rule.Goals as goal

pub put-requires : goal.put-requires
unfolding bytes_of
put-requires c = case-room rule_bytes _ c.requires c.in-Some.is

pub returns-in-Some : goal.returns-in-Some
unfolding bytes_of
returns-in-Some c = search (case-laid, laid_as, byte_as, c.put.ensures, c.in-Some.is)
