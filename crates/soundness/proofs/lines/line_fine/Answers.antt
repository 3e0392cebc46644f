-- A wholly invalid line, and any other.
use Rattle.words.proofs.General.{rules, said_yes}
use Rattle.soundness.proofs.OfLines.{live_line}
use Rattle.soundness.proofs.lines.line_fine.Goals as goal

pub returns : goal.returns
returns c = search (rules, live_line, said_yes)
