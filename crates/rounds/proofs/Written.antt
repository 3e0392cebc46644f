-- The caller's event room in the end: the bytes of the events stand at its start, and read back as the events; a refusal behind others.
use Rattle.words.proofs.General.{ℕ, ◌+◌, ◌≤◌, zero-add, arith, ◌≡◌, refl, ap, ◌∙◌, List, [], ◌∷◌, ◌++◌, length, take, drop, sets-eq, take_at}
use Rattle.model.proofs.Terms.{events_told, bytes_of, log_bytes, parsed, events_in}
use Rattle.model.specs.RecordsOf as records
use Rattle.model.specs.declared.Event.{Event}
use Rattle.model.specs.declared.Event.TheVariants as event
use Rattle.model.specs.declared.Refusal.{Refusal}
use Rattle.model.specs.declared.Reply.{Reply}
use Rattle.records.specs.Fitting.{AllFitting}
use Rattle.records.specs.Stores.{Stored}
use Rattle.records.proofs.RoundTrip.{log_back}
use Rattle.records.proofs.Stores.{was_stored}
use Rattle.tables.specs.Telling.{telling}
use Rattle.tables.proofs.Tellings.{telling-tells}
use Rattle.turns.specs.Parts.{Noted}

pub reads_back : (es : List Event) (e : List ℕ) → AllFitting es → {w : ℕ} {f : List ℕ} → w ≡ length (log_bytes es)
    → f ≡ log_bytes es ++ drop (length (log_bytes es)) e → events_in (take w f) ≡ parsed es
reads_back es e fits count slice =
    rw (count, slice, take_at (log_bytes es) (drop (length (log_bytes es)) e) (length (log_bytes es)) refl) (log_back es fits)

pub noted-written : (es : List Event) (e : List ℕ) {w : ℕ} {f : List ℕ} → Noted e 0 es w f → w ≤ length e
    → (w ≡ length (log_bytes es)) × (f ≡ log_bytes es ++ drop (length (log_bytes es)) e) × (events_in (take w f) ≡ parsed es)
noted-written es e {w} {f} n h =
    let count : w ≡ length (log_bytes es) = omega (arith, n.next) in
    let slice : f ≡ log_bytes es ++ drop (length (log_bytes es)) e = n.slice ∙ sets-eq (log_bytes es) e 0 (omega (arith, n.next)) ∙ rw zero-add in
    (count, slice, reads_back es e n.fits count slice)

-- the two bytes of a refusal
pub refusal_noted : (n : Refusal) (e : List ℕ) (out : ℕ) {reply : Reply} → reply ≡ telling (event.Refused n) → {k : ℕ} {f : List ℕ}
    → Stored e out (log_bytes (events_told reply)) k f → out + 2 ≤ length e → (k ≡ 2) × Noted e out (event.Refused n ∷ []) (out + k) f
unfolding records.log_bytes records.event_bytes bytes_of
refusal_noted n e out is s room =
    let one = ap events_told is ∙ telling-tells (event.Refused n) in
    let (count, slice) = was_stored e out (log_bytes (event.Refused n ∷ [])) (rw one at s) room in
    (count, record { next = ap (λ (k : ℕ). out + k) count; slice = slice; fits = (tt, tt) })
