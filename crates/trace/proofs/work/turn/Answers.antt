-- The records that wait, then a read or the end.
use Rattle.words.proofs.General.{sym, ◌∙◌}
use Rattle.trace.proofs.Going.{reads_by, read_reads, trace_over, carried-inside}
use Rattle.trace.proofs.work.turn.Goals as goal

pub returns-then-goes_on : goal.returns-then-goes_on
returns-then-goes_on c =
    let inside = carried-inside _ _ _ c.carry-have.ensures.0 c.carry-have.auto.buf c.behind-v.ensures.waits in
    record {
      held = c.trace_records-t.ensures;
      read = reads_by c.behind-v.ensures.comes (read_reads _ c.read_part.ensures c.read_part.auto.buf inside);
    }

pub returns : goal.returns
returns c =
    let inside = carried-inside _ _ _ c.carry-have.ensures.0 c.carry-have.auto.buf c.behind-v.ensures.waits in
    record { held = c.trace_records-t.ensures; read = trace_over c.behind-v.ensures inside (sym c.goes_on.ensures ∙ c.if-goes_on.false) }
