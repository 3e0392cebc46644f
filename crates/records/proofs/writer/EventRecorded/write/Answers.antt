-- By the case: there is room for its bytes, and they are what is stored.
use Rattle.model.specs.RecordsOf as records
use Rattle.model.proofs.Terms.{bytes_of, event_bytes}
use Rattle.records.proofs.Encoding.{case-room, case-laid}
use Rattle.records.proofs.writer.EventRecorded.write.Goals as goal

pub put_answer-requires : goal.put_answer-requires
unfolding records.event_bytes bytes_of
put_answer-requires c = case-room event_bytes _ c.requires c.in-Answered.is

pub put_refusal-requires : goal.put_refusal-requires
unfolding records.event_bytes bytes_of
put_refusal-requires c = case-room event_bytes _ c.requires c.in-Refused.is

pub put_numbered-requires : goal.put_numbered-requires
unfolding records.event_bytes bytes_of
put_numbered-requires c = case-room event_bytes _ c.requires c.in-ReadQueued.is

pub put_back-requires : goal.put_back-requires
unfolding records.event_bytes bytes_of
put_back-requires c = case-room event_bytes _ c.requires c.in-WriteBackQueued.is

pub put_numbered-requires-in-Released : goal.put_numbered-requires-in-Released
unfolding records.event_bytes bytes_of
put_numbered-requires-in-Released c = case-room event_bytes _ c.requires c.in-Released.is

pub put_numbered-requires-in-ReadSent : goal.put_numbered-requires-in-ReadSent
unfolding records.event_bytes bytes_of
put_numbered-requires-in-ReadSent c = case-room event_bytes _ c.requires c.in-ReadSent.is

pub put_back-requires-in-WriteBackSent : goal.put_back-requires-in-WriteBackSent
unfolding records.event_bytes bytes_of
put_back-requires-in-WriteBackSent c = case-room event_bytes _ c.requires c.in-WriteBackSent.is

pub put_numbered-requires-in-Filled : goal.put_numbered-requires-in-Filled
unfolding records.event_bytes bytes_of
put_numbered-requires-in-Filled c = case-room event_bytes _ c.requires c.in-Filled.is

pub put-requires : goal.put-requires
unfolding records.event_bytes bytes_of
put-requires c = case-room event_bytes _ c.requires c.in-Ticked.is

pub returns-in-Answered : goal.returns-in-Answered
unfolding records.event_bytes bytes_of
returns-in-Answered c = case-laid event_bytes _ c.put_answer.ensures c.in-Answered.is

pub returns-in-Refused : goal.returns-in-Refused
unfolding records.event_bytes bytes_of
returns-in-Refused c = case-laid event_bytes _ c.put_refusal.ensures c.in-Refused.is

pub returns-in-ReadQueued : goal.returns-in-ReadQueued
unfolding records.event_bytes bytes_of
returns-in-ReadQueued c = case-laid event_bytes _ c.put_numbered.ensures c.in-ReadQueued.is

pub returns-in-WriteBackQueued : goal.returns-in-WriteBackQueued
unfolding records.event_bytes bytes_of
returns-in-WriteBackQueued c = case-laid event_bytes _ c.put_back.ensures c.in-WriteBackQueued.is

pub returns-in-Released : goal.returns-in-Released
unfolding records.event_bytes bytes_of
returns-in-Released c = case-laid event_bytes _ c.put_numbered-in-Released.ensures c.in-Released.is

pub returns-in-ReadSent : goal.returns-in-ReadSent
unfolding records.event_bytes bytes_of
returns-in-ReadSent c = case-laid event_bytes _ c.put_numbered-in-ReadSent.ensures c.in-ReadSent.is

pub returns-in-WriteBackSent : goal.returns-in-WriteBackSent
unfolding records.event_bytes bytes_of
returns-in-WriteBackSent c = case-laid event_bytes _ c.put_back-in-WriteBackSent.ensures c.in-WriteBackSent.is

pub returns-in-Filled : goal.returns-in-Filled
unfolding records.event_bytes bytes_of
returns-in-Filled c = case-laid event_bytes _ c.put_numbered-in-Filled.ensures c.in-Filled.is

pub returns-in-Ticked : goal.returns-in-Ticked
unfolding records.event_bytes bytes_of
returns-in-Ticked c = case-laid event_bytes _ c.put.ensures c.in-Ticked.is
