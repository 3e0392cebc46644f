-- The arrays hold the largest tables.
use Rattle.words.proofs.General.{sym, length-take-le}
use Rattle.streaming.proofs.Leaving.{longs_fit, words_fit, marks_fit}
use Rattle.trace.proofs.trace_stream.Goals as goal

pub slice_bounds-longs-end : goal.slice_bounds-longs-end
slice_bounds-longs-end c = search longs_fit

pub slice_bounds-trace_all-end : goal.slice_bounds-trace_all-end
slice_bounds-trace_all-end c = sym (length-take-le _ _ (search longs_fit))

pub slice_bounds-words-end : goal.slice_bounds-words-end
slice_bounds-words-end c = search words_fit

pub slice_bounds-trace_all-end-2 : goal.slice_bounds-trace_all-end-2
slice_bounds-trace_all-end-2 c = sym (length-take-le _ _ (search words_fit))

pub slice_bounds-marks-end : goal.slice_bounds-marks-end
slice_bounds-marks-end c = search marks_fit

pub slice_bounds-trace_all-end-3 : goal.slice_bounds-trace_all-end-3
slice_bounds-trace_all-end-3 c = sym (length-take-le _ _ (search marks_fit))

pub trace_all-requires : goal.trace_all-requires
trace_all-requires c = (c.requires, cc)
