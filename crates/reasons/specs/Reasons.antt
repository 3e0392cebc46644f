-- What a refused access waits for, by its refusal number and the tables: "set busy" the oldest entry of its set, "set held" dirty lines,
-- "too few free queue places" the queue's head, "entry has W tickets" that entry, "M in use" the oldest entry. Document 01 has the
-- refusals; that they have a reason, and which, is decided here.
use Rattle.std.specs.Prelude.{ℕ, ◌+◌, ◌-◌, ◌*◌, ◌/◌, ◌%◌, Bool, true, List, [], ◌∷◌, length, eqb, Result, Ok, Err}
use Rattle.words.specs.Words.{pick}
use Rattle.model.specs.Range.{lines_of}
use Rattle.model.specs.Address.{address_of, set_index}
use Rattle.model.specs.Tables.{Entry, Tables, Outcome, refused, done, entry_for}
use Rattle.model.specs.Lent.{Lent, tables_of}
use Rattle.model.specs.Steps.{sent_event}
use Rattle.model.specs.Calls.{check_call}
use Rattle.model.specs.declared.Settings.{Settings}
use Rattle.model.specs.declared.Queued.{Queued}
use Rattle.model.specs.declared.Access.{Access}
use Rattle.model.specs.declared.Refusal.{Refusal}
use Rattle.model.specs.declared.Refusal.TheVariants as refusal
use Rattle.reasons.specs.declared.Reason.{Reason}
use Rattle.reasons.specs.declared.Reason.TheVariants as reason

-- the first entry that passes, the oldest of them
abbrev pub entry_reason : (Entry → Bool) → List Entry → Reason
entry_reason p [] = reason.Nothing
entry_reason p (e ∷ es) = pick (p e) (reason.Entry e.address e.sent (length e.tickets)) (entry_reason p es)

-- an entry names a sector of a line of its own set
abbrev pub of_set : ℕ → ℕ → Entry → Bool
of_set sets set e = eqb (e.address / 128 % sets) set

abbrev pub any_entry : Entry → Bool
any_entry e = true

-- the least k with 100 × (d + k) ≥ P × lines; `missing_enough` and `missing_least` say that it is
abbrev pub missing_lines : ℕ → ℕ → ℕ → ℕ
missing_lines percent lines d = (percent * lines - 100 * d + 99) / 100

abbrev pub lines_reason : Settings → ℕ → Reason
lines_reason S d = reason.Lines (missing_lines S.dirty (lines_of S) d) d (lines_of S) S.dirty

abbrev pub queue_reason : ℕ → List Queued → Reason
queue_reason places [] = reason.Nothing
queue_reason places (q ∷ qs) = reason.Queue (sent_event q) (places - length (q ∷ qs))

-- what the access x, refused by this number on the tables t, waits for; 4 does not pass, and the others are not an access's
abbrev pub reason_for : Settings → Access → Tables → Refusal → Reason
reason_for S x t refusal.SettingOutOfRange = reason.Nothing
reason_for S x t refusal.SliceLength = reason.Nothing
reason_for S x t refusal.NotSound = reason.Nothing
reason_for S x t refusal.BadAccess = reason.Nothing
reason_for S x t refusal.SetBusy = entry_reason (of_set S.sets (set_index S (address_of x))) t.misses
reason_for S x t refusal.SetHeld = lines_reason S t.dirty_count
reason_for S x t refusal.QueueFull = queue_reason S.queue t.queue
reason_for S x t refusal.EntryFull = entry_reason (entry_for (address_of x)) t.misses
reason_for S x t refusal.MissTableFull = entry_reason any_entry t.misses
reason_for S x t refusal.NotSent = reason.Nothing
reason_for S x t refusal.BadCycle = reason.Nothing
reason_for S x t refusal.QueueEmpty = reason.Nothing

abbrev pub reason_checked : Settings → Access → Refusal → Lent → Outcome Lent → Result Reason Refusal
reason_checked S x n L (refused k) = Err k
reason_checked S x n L (done es M) = Ok (reason_for S x (tables_of S L) n)

-- refusals 1, 2 and 3, as everywhere; then the reason
unfoldable pub reason_call : Settings → Access → Refusal → Lent → Result Reason Refusal
reason_call S x n L = reason_checked S x n L (check_call S L)
