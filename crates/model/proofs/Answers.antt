-- The constant table of answers: the statuses, where a status and a column lie in it, and its rule, by one computed test over the whole table.
use Rattle.words.proofs.General.{ℕ, ◌<◌, arith, ◌≡◌, refl, Bool, true, [], get_or, eqb, pick, every, clash}
use Rattle.model.proofs.Terms.{status_number, status_of, answer_number, is_reserved, is_modified, answers}
use Rattle.model.specs.declared.Status.{Status}
use Rattle.model.specs.declared.Status.TheVariants.{Invalid, Reserved, Valid, Modified}
use Rattle.model.specs.declared.QueueKind.{QueueKind}
use Rattle.model.specs.declared.QueueKind.TheVariants as queue
use Rattle.model.specs.declared.Answer.{Answer}
use Rattle.model.specs.declared.Answer.TheVariants.{Hit, HitReserved, Miss, SectorMiss}

-- a law of each status, and of each kind of a queued entry
pub by_status : (P : Status → Type 0) → P Invalid → P Reserved → P Valid → P Modified → (s : Status) → P s
by_status P i r v m Invalid = i
by_status P i r v m Reserved = r
by_status P i r v m Valid = v
by_status P i r v m Modified = m

pub by_kind : (P : QueueKind → Type 0) → P queue.Read → P queue.WriteBack → (k : QueueKind) → P k
by_kind P r w queue.Read = r
by_kind P r w queue.WriteBack = w

pub status_of_number : (s : Status) → status_of (status_number s) ≡ s
status_of_number = by_status (λ s. status_of (status_number s) ≡ s) refl refl refl refl

pub status_below : (s : Status) → status_number s < 4
status_below = by_status (λ s. status_number s < 4) (omega arith) (omega arith) (omega arith) (omega arith)

pub status_reserved : (s : Status) → is_reserved s ≡ true → s ≡ Reserved
status_reserved = by_status (λ s. is_reserved s ≡ true → s ≡ Reserved) (λ e. clash e refl) (λ e. refl) (λ e. clash e refl) (λ e. clash e refl)

pub status_modified : (s : Status) → is_modified s ≡ true → s ≡ Modified
status_modified = by_status (λ s. is_modified s ≡ true → s ≡ Modified) (λ e. clash e refl) (λ e. clash e refl) (λ e. clash e refl) (λ e. refl)

-- the rule in words: INVALID misses its sector, RESERVED is merged with, VALID hits; MODIFIED hits but for a read where it is unreadable
abbrev rule : Status → ℕ → Answer
rule Invalid column = SectorMiss
rule Reserved column = HitReserved
rule Valid column = Hit
rule Modified column = pick (eqb column 2) SectorMiss Hit

abbrev answer_ruled : ℕ → ℕ → Bool
answer_ruled row column = eqb (answer_number (get_or (get_or answers row []) column Miss)) (answer_number (rule (status_of row) column))

pub answers-ruled : every 4 (λ row. every 3 (answer_ruled row)) ≡ true
answers-ruled = refl
