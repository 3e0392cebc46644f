use Rattle.words.proofs.General.{rules}
use Rattle.layout.proofs.ranges.lengths_fit.Goals as goal

pub longs_length-requires : goal.longs_length-requires
longs_length-requires c = search rules

pub words_length-requires : goal.words_length-requires
words_length-requires c = search rules

pub marks_length-requires : goal.marks_length-requires
marks_length-requires c = search rules

pub returns : goal.returns
returns c = rw (c.longs_length.ensures, c.words_length.ensures, c.marks_length.ensures)
