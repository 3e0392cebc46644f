-- The loop over the usual records: the run so far, what is in use, and that it came further unless nothing was done.
use Rattle.running.proofs.Turns.{usual-nearer, usual-moved, usual-stands}
use Rattle.running.proofs.record.run_usual.Goals as goal

pub loop-here-smaller : goal.loop-here-smaller
loop-here-smaller c =
    let pre = c.requires in
    usual-nearer c.loop-here.here c.in-Some.went c.in-Some.ensures.tries c.loop-here.invariant.0 pre.whole_below.0 pre.whole_below.1 c.loop-here-test.true pre.sound.0

pub loop-here-preserved : goal.loop-here-preserved
loop-here-preserved c =
    let pre = c.requires in
    let x = c.in-Some.ensures in
    let k = c.step_record.auto in (
      usual-stands c.loop-here.here c.in-Some.went x.tries c.loop-here.invariant.0 pre.whole_below.0 pre.whole_below.1 c.loop-here-test.true pre.sound.0 k.events k.longs k.words k.marks,
      x.used_after,
      usual-moved c.loop-here.here c.in-Some.went x.tries c.loop-here.invariant.0 pre.whole_below.0 pre.whole_below.1 c.loop-here-test.true pre.sound.0,
    )
