-- By the case: the size is the length of its bytes, and the bound numbers are in range.
use Rattle.words.proofs.General.{rules}
use Rattle.model.specs.RecordsOf as records
use Rattle.model.proofs.Terms.{bytes_of}
use Rattle.records.proofs.writer.EventRecorded.size.Goals as goal

pub returns-in-Answered : goal.returns-in-Answered
unfolding records.event_bytes bytes_of
returns-in-Answered c = rw c.in-Answered.is (search rules)

pub returns-in-Refused : goal.returns-in-Refused
unfolding records.event_bytes bytes_of
returns-in-Refused c = rw c.in-Refused.is (search rules)

pub returns-in-ReadQueued : goal.returns-in-ReadQueued
unfolding records.event_bytes bytes_of
returns-in-ReadQueued c = rw c.in-ReadQueued.is (search rules)

pub returns-in-WriteBackQueued : goal.returns-in-WriteBackQueued
unfolding records.event_bytes bytes_of
returns-in-WriteBackQueued c = rw c.in-WriteBackQueued.is (search rules)

pub returns-in-Released : goal.returns-in-Released
unfolding records.event_bytes bytes_of
returns-in-Released c = rw c.in-Released.is (search rules)

pub returns-in-ReadSent : goal.returns-in-ReadSent
unfolding records.event_bytes bytes_of
returns-in-ReadSent c = rw c.in-ReadSent.is (search rules)

pub returns-in-WriteBackSent : goal.returns-in-WriteBackSent
unfolding records.event_bytes bytes_of
returns-in-WriteBackSent c = rw c.in-WriteBackSent.is (search rules)

pub returns-in-Filled : goal.returns-in-Filled
unfolding records.event_bytes bytes_of
returns-in-Filled c = rw c.in-Filled.is (search rules)

pub returns-in-Ticked : goal.returns-in-Ticked
unfolding records.event_bytes bytes_of
returns-in-Ticked c = rw c.in-Ticked.is (search rules)
