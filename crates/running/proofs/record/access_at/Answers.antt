-- The numbers of the body, by its kind.
use Rattle.words.proofs.General.{arith, eq-eqb, ne_eqb, rules}
use Rattle.model.specs.RecordsOf as records
use Rattle.running.proofs.record.access_at.Goals as goal

pub body_of-body-requires : goal.body_of-body-requires
unfolding records.length_of
body_of-body-requires c = search rules

pub returns-then-stream-at-eq-READ : goal.returns-then-stream-at-eq-READ
unfolding records.length_of
returns-then-stream-at-eq-READ c =
    (rw (c.read.ensures, c.read-then-stream-at-eq-READ.ensures, c.body_of-body.ensures.bytes, eq-eqb _ 1 c.if-stream-at-eq-READ.true), omega arith)

pub body_of-body-requires-2 : goal.body_of-body-requires-2
unfolding records.length_of
body_of-body-requires-2 c = search rules

pub returns : goal.returns
unfolding records.length_of
returns c =
    (rw (c.read-2.ensures, c.read-mask.ensures, c.body_of-body-2.ensures.bytes, ne_eqb _ 1 c.if-stream-at-eq-READ.false), omega arith)
