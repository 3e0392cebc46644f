-- `input::carry`: the bytes are none of the buffer's, or are moved.
use Rattle.words.proofs.General.{◌∙◌, ⊎_elim, zero-add, lt-leb, le-leb}
use Rattle.input.specs.Buffers.{carried, carried_count}
use Rattle.input.proofs.carry.Goals as goal

pub returns-then-to-from : goal.returns-then-to-from
unfolding carried carried_count
returns-then-to-from c =
    let a = c.args in
    ⊎_elim (λ h. let e = lt-leb a.from a.to h in (rw e, rw e))
    (λ h. let e = le-leb a.from a.to h.0 in let f = lt-leb a.to _ h.1 in (rw (e, f), rw (e, f)))
    c.then-to-from.either

pub returns : goal.returns
unfolding carried carried_count
returns c =
    let a = c.args in
    let e = le-leb a.from a.to c.if-to-from.false in
    let f = le-leb a.to _ c.if-buf-to.false in
    (rw (e, f), rw (e, f) (c.copy_within.ensures.after ∙ simp zero-add))
