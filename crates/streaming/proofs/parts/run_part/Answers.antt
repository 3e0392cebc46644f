-- The runner's promise on the part, and what the buffer then holds.
use Rattle.words.proofs.General.{refl}
use Rattle.streaming.proofs.Leaving.{part-ran, part-failed}
use Rattle.streaming.proofs.parts.run_part.Goals as goal

pub returns-then-done : goal.returns-then-done
returns-then-done c =
    part-ran c.args.scope c.args.buf.now c.args.w.have c.requires.have_in_bounds c.front.ensures c.part_end-end.ensures.0 c.part_end-end.ensures.1 c.front-part.ensures
    c.run_records-ran.ensures c.carry-rest.ensures.0 c.carry-rest.ensures.1 c.carry-rest.auto.buf c.front-2.ensures c.hand_out-written.ensures c.behind-v.ensures

pub returns-else-done : goal.returns-else-done
returns-else-done c =
    part-failed c.args.scope c.args.buf.now c.args.w.have c.requires.have_in_bounds c.front.ensures c.part_end-end.ensures.0 c.part_end-end.ensures.1 c.front-part.ensures
    c.run_records-ran.ensures c.carry-rest.ensures.0 c.carry-rest.ensures.1 c.carry-rest.auto.buf c.front-2.ensures c.hand_out-written.ensures c.behind-v.ensures c.failed.ensures
