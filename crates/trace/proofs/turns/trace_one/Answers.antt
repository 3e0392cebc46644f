-- One record by itself: it is gone past, or the runner stops there.
use Rattle.words.proofs.General.{◌∙◌}
use Rattle.trace.proofs.Going.{front_stands, ran_held, record-halted, record-ran}
use Rattle.trace.proofs.turns.trace_one.Goals as goal

pub run_records-ran-requires : goal.run_records-ran-requires
run_records-ran-requires c =
    let held = c.requires.sound in search front_stands

pub returns-then-ran-at : goal.returns-then-ran-at
returns-then-ran-at c =
    record-halted c.run_records-ran.ensures c.requires.sound c.args.bytes.now c.record_end-end.result c.front-part.ensures c.args.t c.requires.at_in_bounds c.halted.ensures

pub put_record-put-requires : goal.put_record-put-requires
put_record-put-requires c = ran_held c.run_records-ran.ensures c.requires.sound

pub returns : goal.returns
returns c =
    record-ran c.run_records-ran.ensures c.requires.sound c.args.bytes.now c.record_end-end.result c.front-part.ensures c.args.t c.if-ran-at.false (c.with_room.ensures ∙ c.passed.ensures)
