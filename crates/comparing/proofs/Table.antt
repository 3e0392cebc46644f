-- The kinds of events by the tests that the code makes, by one computed test over the whole table.
use Rattle.words.proofs.General.{ℕ, ◌≤◌, ◌≡◌, refl, sym, ◌∙◌, ⊎_elim, Bool, true, not, ◌&&◌, and-false, eqb, ltb, ltb-true, ltb-false, every, same}
use Rattle.words.proofs.General.{flag, same_is, none-past, every_at}
use Rattle.model.specs.RecordsOf as records
use Rattle.model.proofs.Terms.{event_kinds, length_of, is_command}
use Rattle.records.proofs.Lengths.{length-past}
use Rattle.comparing.specs.Kinds.{is_event}

abbrev start_told : ℕ → Bool
start_told k = not (is_command k) && not (eqb (length_of k) 255)

events_told_lem : every 25 (λ k. same (start_told k) (is_event k)) ≡ true
unfolding is_event records.length_of
events_told_lem = refl

pub event_kinds_lem : (k : ℕ) → start_told k ≡ is_event k
unfolding is_event
event_kinds_lem k =
    ⊎_elim
    (λ e. same_is (start_told k) (is_event k) (every_at (λ i. same (start_told i) (is_event i)) 25 k events_told_lem (ltb-true k 25 e)))
    (λ e. past (ltb-false k 25 e))
    (flag (ltb k 25))
  where
    past : 25 ≤ k → start_told k ≡ is_event k
    past h = rw (length-past k h) (and-false (not (is_command k)) ∙ sym (none-past (λ x. x.kind) 25 k event_kinds refl h))
