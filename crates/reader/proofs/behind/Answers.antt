-- By what was read.
use Rattle.reader.proofs.Places.{behind_whole, behind-none}
use Rattle.reader.proofs.behind.Goals as goal

pub returns-in-Ok : goal.returns-in-Ok
returns-in-Ok c = behind_whole _ _ c.read_at.ensures c.in-Ok.is

pub returns-in-Err : goal.returns-in-Err
returns-in-Err c = behind-none _ _ c.read_at.ensures c.in-Err.is
