-- The arrays hold the largest tables, and what is lent of them is as long as the stream's settings ask.
use Rattle.std.proofs.Common.{sym}
use Rattle.std.proofs.Math.Seq.{length-take-le}
use Rattle.streaming.proofs.Leaving.{longs_fit, words_fit, marks_fit, lent_long}
use Rattle.wait.proofs.wait_stream.Goals as goal

pub slice_bounds-longs-end : goal.slice_bounds-longs-end
slice_bounds-longs-end c = search longs_fit

pub slice_bounds-wait_all-end : goal.slice_bounds-wait_all-end
slice_bounds-wait_all-end c = sym (length-take-le _ _ (search longs_fit))

pub slice_bounds-words-end : goal.slice_bounds-words-end
slice_bounds-words-end c = search words_fit

pub slice_bounds-wait_all-end-2 : goal.slice_bounds-wait_all-end-2
slice_bounds-wait_all-end-2 c = sym (length-take-le _ _ (search words_fit))

pub slice_bounds-marks-end : goal.slice_bounds-marks-end
slice_bounds-marks-end c = search marks_fit

pub slice_bounds-wait_all-end-3 : goal.slice_bounds-wait_all-end-3
slice_bounds-wait_all-end-3 c = sym (length-take-le _ _ (search marks_fit))

pub wait_all-requires-clause-long : goal.wait_all-requires-clause-long
wait_all-requires-clause-long c = search lent_long
