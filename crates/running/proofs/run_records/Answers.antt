-- The loop: the usual records, then one that is judged in full. What is left, run from here, gives what the whole gives, what is in use is
-- counted, and a turn that comes no further is followed by one that does.
use Rattle.words.proofs.General.{arith}
use Rattle.encoding.proofs.Bridge.{is_fit}
use Rattle.running.proofs.Turns.{run_stands_first, run-stands-then, goes-ends, whole_first, judged_stops, whole_one, run-nearer}
use Rattle.running.proofs.run_records.Goals as goal

pub used-requires : goal.used-requires
used-requires c = let f = is_fit _ _ _ c.requires.sound.are in let p = c.args.g.laid in omega arith

pub used-requires-2 : goal.used-requires-2
used-requires-2 c = let f = is_fit _ _ _ c.requires.sound.are in let p = c.args.g.laid in omega arith

pub loop-here-init : goal.loop-here-init
loop-here-init c = search (run_stands_first, whole_first)

pub returns-then-stream-here : goal.returns-then-stream-here
returns-then-stream-here c =
    rw c.ran_to.ensures (goes-ends (run-stands-then c.loop-here.invariant.0 c.run_usual-here.ensures.run_stands) c.if-stream-here.true)

pub returns-then-is_some : goal.returns-then-is_some
returns-then-is_some c =
    let g = run-stands-then c.loop-here.invariant.0 c.run_usual-here.ensures.run_stands in
    rw c.ran_to-then-is_some.ensures (judged_stops g c.if-stream-here.false c.read_at-found.ensures c.later_stop-stop.ensures c.is_some.ensures c.if-is_some.true)

pub loop-here-smaller : goal.loop-here-smaller
loop-here-smaller c =
    let size = c.loop-here.invariant.0.size in
    run-nearer c.run_usual-here.ensures.run_stands c.if-stream-here.false c.read_at-found.ensures c.later_stop-stop.ensures c.is_some.ensures c.if-is_some.false
    (omega (arith, c.starts-ample.ensures)) c.run_usual-here.ensures.start_lt_at

pub loop-here-preserved : goal.loop-here-preserved
loop-here-preserved c =
    let g = c.run_usual-here.ensures.run_stands in (
      run-stands-then c.loop-here.invariant.0 g,
      c.run_usual-here.ensures.used_in_marks,
      whole_one g c.if-stream-here.false c.read_at-found.ensures c.later_stop-stop.ensures c.is_some.ensures c.if-is_some.false,
    )
