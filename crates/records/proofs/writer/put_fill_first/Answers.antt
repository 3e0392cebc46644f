-- By the case, as in `put_event`; an event of any other case is excluded.
use Rattle.model.specs.RecordsOf as records
use Rattle.model.proofs.Terms.{bytes_of, event_bytes}
use Rattle.records.proofs.Encoding.{case-room, case-laid}
use Rattle.records.proofs.writer.put_fill_first.Goals as goal

pub put_numbered-requires : goal.put_numbered-requires
unfolding records.event_bytes bytes_of
put_numbered-requires c = case-room event_bytes _ c.requires.1 c.in-Filled.is

pub put_refusal-requires : goal.put_refusal-requires
unfolding records.event_bytes bytes_of
put_refusal-requires c = case-room event_bytes _ c.requires.1 c.in-Refused.is

pub returns-in-Filled : goal.returns-in-Filled
unfolding records.event_bytes bytes_of
returns-in-Filled c = case-laid event_bytes _ c.put_numbered.ensures c.in-Filled.is

pub returns-in-Refused : goal.returns-in-Refused
unfolding records.event_bytes bytes_of
returns-in-Refused c = case-laid event_bytes _ c.put_refusal.ensures c.in-Refused.is
