-- The invariant: the tickets before this one are stored, five bytes each.
use Rattle.words.proofs.General.{◌*◌, ◌≡◌, length}
use Rattle.model.proofs.Terms.{log_bytes}
use Rattle.records.specs.Stores.{Laid}
use Rattle.records.specs.Parts.{tickets_told}
use Rattle.records.proofs.writer.put_tickets.Given as goal

abbrev pub invariant-loop-t : goal.invariant-loop-t
invariant-loop-t l =
    (length l.out ≡ length l.initial.out) × Laid l.initial.out l.at (5 * l.t-index) (log_bytes (tickets_told l.t-index l.tickets)) l.i l.out
