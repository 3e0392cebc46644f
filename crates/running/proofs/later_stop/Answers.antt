-- The checks at any record, with what is asked of a later one.
use Rattle.words.proofs.General.{rules}
use Rattle.running.proofs.later_stop.Goals as goal

pub room_stop-requires : goal.room_stop-requires
room_stop-requires c = search rules

pub record_stop-requires : goal.record_stop-requires
record_stop-requires c = search rules

pub returns : goal.returns
returns c = cc
