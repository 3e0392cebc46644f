-- Nothing without a slice of one number and room for the events; else the wait, and its round.
use Rattle.exported.proofs.Calling.{wait-made}
use Rattle.exported.proofs.labintugmo_wait.Goals as goal

pub returns : goal.returns
returns c = search wait-made
