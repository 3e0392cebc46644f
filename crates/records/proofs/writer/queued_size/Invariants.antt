-- The invariant: the sizes of the events before this one are added, of at most 25 bytes each, and their numbers fit.
use Rattle.words.proofs.General.{◌*◌, ◌≤◌, ◌≡◌, length}
use Rattle.model.proofs.Terms.{log_bytes}
use Rattle.records.specs.Fitting.{AllFitting}
use Rattle.records.specs.Parts.{queued_told}
use Rattle.records.proofs.writer.queued_size.Given as goal

abbrev pub invariant-loop-x : goal.invariant-loop-x
invariant-loop-x l =
    (l.n ≡ length (log_bytes (queued_told l.x-index l.queued))) × (l.n ≤ 25 * l.x-index) × AllFitting (queued_told l.x-index l.queued)
