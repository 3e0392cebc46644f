-- By the case: the event is all that is told. An event of any other case is excluded.
use Rattle.model.specs.RecordsOf as records
use Rattle.model.proofs.Terms.{bytes_of}
use Rattle.records.proofs.Reply.{first-laid}
use Rattle.records.proofs.writer.put_sent.Goals as goal

pub returns-in-ReadSent : goal.returns-in-ReadSent
unfolding records.event_bytes bytes_of
returns-in-ReadSent c = first-laid _ c.requires.0 c.put_numbered.ensures c.in-ReadSent.is

pub returns-in-WriteBackSent : goal.returns-in-WriteBackSent
unfolding records.event_bytes bytes_of
returns-in-WriteBackSent c = first-laid _ c.requires.0 c.put_back.ensures c.in-WriteBackSent.is

pub returns-in-Refused : goal.returns-in-Refused
unfolding records.event_bytes bytes_of
returns-in-Refused c = first-laid _ c.requires.0 c.put_refusal.ensures c.in-Refused.is
