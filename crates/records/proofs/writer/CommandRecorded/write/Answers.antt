-- By the case: there is room for its bytes, and they are what is stored.
use Rattle.model.specs.RecordsOf as records
use Rattle.model.proofs.Terms.{bytes_of, command_bytes}
use Rattle.records.proofs.Encoding.{case-room, case-laid}
use Rattle.records.proofs.writer.CommandRecorded.write.Goals as goal

pub put_request-requires : goal.put_request-requires
unfolding records.command_bytes bytes_of
put_request-requires c = case-room command_bytes _ c.requires c.in-Read.is

pub put_request-requires-in-Write : goal.put_request-requires-in-Write
unfolding records.command_bytes bytes_of
put_request-requires-in-Write c = case-room command_bytes _ c.requires c.in-Write.is

pub put-requires : goal.put-requires
unfolding records.command_bytes bytes_of
put-requires c = case-room command_bytes _ c.requires c.in-Send.is

pub put_numbered-requires : goal.put_numbered-requires
unfolding records.command_bytes bytes_of
put_numbered-requires c = case-room command_bytes _ c.requires c.in-Fill.is

pub put_numbered-requires-in-Tick : goal.put_numbered-requires-in-Tick
unfolding records.command_bytes bytes_of
put_numbered-requires-in-Tick c = case-room command_bytes _ c.requires c.in-Tick.is

pub returns-in-Read : goal.returns-in-Read
unfolding records.command_bytes bytes_of
returns-in-Read c = case-laid command_bytes _ c.put_request.ensures c.in-Read.is

pub returns-in-Write : goal.returns-in-Write
unfolding records.command_bytes bytes_of
returns-in-Write c = case-laid command_bytes _ c.put_request-in-Write.ensures c.in-Write.is

pub returns-in-Send : goal.returns-in-Send
unfolding records.command_bytes bytes_of
returns-in-Send c = case-laid command_bytes _ c.put.ensures c.in-Send.is

pub returns-in-Fill : goal.returns-in-Fill
unfolding records.command_bytes bytes_of
returns-in-Fill c = case-laid command_bytes _ c.put_numbered.ensures c.in-Fill.is

pub returns-in-Tick : goal.returns-in-Tick
unfolding records.command_bytes bytes_of
returns-in-Tick c = case-laid command_bytes _ c.put_numbered-in-Tick.ensures c.in-Tick.is
