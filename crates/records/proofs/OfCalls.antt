-- Calls on slices of 32-bit words: their events fit, and take 49 bytes at most.
use Rattle.words.proofs.General.{◌≤◌, le_trans, ◌≡◌, sym, subst, true, List, [], ◌∷◌, length, lit≤, le-leb, by_flag, every_i, all_table}
use Rattle.model.proofs.Terms.{in_range, Tables, Outcome, events_of, Lent, lengths_fit, tables_of, sound, sound_lent, call, log_bytes, fill_bytes, Encodes}
use Rattle.model.specs.declared.Settings.{Settings}
use Rattle.model.specs.declared.Refusal.{Refusal}
use Rattle.model.specs.declared.Refusal.TheVariants.{SettingOutOfRange, SliceLength, NotSound}
use Rattle.model.specs.declared.Event.{Event}
use Rattle.model.specs.declared.Event.TheVariants.{Refused}
use Rattle.encoding.proofs.DecodeIsSound.{Small}
use Rattle.encoding.proofs.Bridge.{sound-encoded, events_encoded}
use Rattle.records.specs.Fitting.{AllFitting, stamped}
use Rattle.records.proofs.Room.{TakesRoom, refused_takes}

-- ---- the tables that the slices hold

pub tables-stamped : (S : Settings) (L : Lent) → Small L → stamped (tables_of S L) ≡ true
unfolding tables_of
tables-stamped S L small = search (all_table, every_i, le-leb)

-- what holds of a refusal's events and of the step's on the tables that the slices hold, holds of the call's
pub call_events : (P : List Event → Type 0) (S : Settings) (step : Tables → Outcome Tables) (L : Lent) → Small L → ((n : Refusal) → P (Refused n ∷ []))
    → (Encodes S L (tables_of S L) → P (events_of (step (tables_of S L)))) → P (events_of (call S step L))
unfolding call
call_events P S step L small refuses steps =
    by_flag On (in_range S) _ _
    (λ r. by_flag On (lengths_fit S L) _ _
    (λ f. by_flag On (sound_lent S L) _ _
    (λ s. subst P (sym (events_encoded S (step (tables_of S L)))) (steps (sound-encoded S L r f small s)))
    (λ s. refuses NotSound))
    (λ f. refuses SliceLength))
    (λ r. refuses SettingOutOfRange)
  where
    On : Outcome Lent → Type 0
    On o = P (events_of o)

pub call_fits : (S : Settings) (step : Tables → Outcome Tables) (L : Lent) → Small L
    → ((t : Tables) → in_range S ≡ true → sound S t ≡ true → stamped t ≡ true → AllFitting (events_of (step t))) → AllFitting (events_of (call S step L))
call_fits S step L small f =
    call_events AllFitting S step L small (λ n. (tt, tt)) (λ i. f (tables_of S L) i.range i.soundly (tables-stamped S L small))

-- 64 bytes suffice
pub call-room : (S : Settings) (step : Tables → Outcome Tables) (L : Lent) → Small L
    → ((t : Tables) → in_range S ≡ true → sound S t ≡ true → TakesRoom fill_bytes (step t)) → length (log_bytes (events_of (call S step L))) ≤ fill_bytes
call-room S step L small f =
    call_events (λ es. length (log_bytes es) ≤ fill_bytes) S step L small
    (λ n. le_trans (refused_takes n).most (lit≤ tt))
    (λ i. (f (tables_of S L) i.range i.soundly).most)
