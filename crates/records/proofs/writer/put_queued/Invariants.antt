-- The invariant: the entries before this one are stored.
use Rattle.words.proofs.General.{◌≡◌, length}
use Rattle.model.proofs.Terms.{log_bytes}
use Rattle.records.specs.Stores.{Laid}
use Rattle.records.specs.Parts.{queued_told}
use Rattle.records.proofs.writer.put_queued.Given as goal

abbrev pub invariant-loop-x : goal.invariant-loop-x
invariant-loop-x l =
    (length l.out ≡ length l.initial.out) × Laid l.initial.out l.at (length (log_bytes (queued_told l.x-index l.queued))) (log_bytes (queued_told l.x-index l.queued)) l.i l.out
