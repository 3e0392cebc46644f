-- The calls on lent tables: refusals 1, 2 and 3 in front of each step, and what a call's value tells.
use Rattle.std.specs.Prelude.{◌≡◌, ℕ, List, [], ◌∷◌, ◌++◌, map, length, take, replicate, Result, Ok, Err}
use Rattle.model.specs.declared.Refusal.{Refusal}
use Rattle.words.specs.Words.{pick, pad_to}
use Rattle.model.specs.Range.{in_range}
use Rattle.model.specs.Tables.{Tables, idle, start, Outcome, refused, done, after, events_of}
use Rattle.model.specs.Lent.{Lent, lengths_fit, tables_of, encode}
use Rattle.model.specs.SoundLent.{sound_lent}
use Rattle.model.specs.Steps.{queued_event, access, send, fill, tick}
use Rattle.model.specs.declared.Settings.{Settings}
use Rattle.model.specs.declared.Access.{Access}
use Rattle.model.specs.declared.Refusal.TheVariants.{SettingOutOfRange, SliceLength, NotSound}
use Rattle.model.specs.declared.Event.{Event}
use Rattle.model.specs.declared.Event.TheVariants.{Released}
use Rattle.model.specs.declared.Queued.{Queued}
use Rattle.model.specs.declared.Reply.{Reply}

-- ---- "Checked in this order": 1 "a setting outside its range", 2 "a lent slice of another length", 3 "tables not sound"

-- the slices that a step's tables give
abbrev pub encoded : Settings → Outcome Tables → Outcome Lent
encoded S (refused n) = refused n
encoded S (done es t) = done es (encode S t)

abbrev pub sizes_checked : Settings → Lent → Outcome Lent → Outcome Lent
sizes_checked S L o = pick (in_range S) (pick (lengths_fit S L) o (refused SliceLength)) (refused SettingOutOfRange)

-- a step on the tables that the slices hold
unfoldable pub call : Settings → (Tables → Outcome Tables) → Lent → Outcome Lent
call S step L = sizes_checked S L (pick (sound_lent S L) (encoded S (step (tables_of S L))) (refused NotSound))

abbrev pub access_call : Settings → Access → Lent → Outcome Lent
access_call S x = call S (access S x)

abbrev pub send_call : Settings → Lent → Outcome Lent
send_call S = call S send

abbrev pub fill_call : Settings → ℕ → Lent → Outcome Lent
fill_call S a = call S (fill a)

abbrev pub tick_call : Settings → ℕ → Lent → Outcome Lent
tick_call S c = call S (tick c)

-- the check of refusal 3 by itself: it leaves the slices, and tells nothing if they are sound
abbrev pub check_call : Settings → Lent → Outcome Lent
check_call S L = sizes_checked S L (pick (sound_lent S L) (done [] L) (refused NotSound))

-- fresh tables: 3 is "not asked where they are made fresh"
abbrev pub fresh_call : Settings → Lent → Outcome Lent
fresh_call S L = sizes_checked S L (done [] (encode S (start S)))

-- what `check` and `fresh` return
abbrev pub verdict_of : Outcome Lent → Result (Unit {0}) Refusal
verdict_of (refused n) = Err n
verdict_of (done es L) = Ok tt

-- ---- what a call's value tells

-- its first event, the entries queued in order, the tickets released in order
unfoldable pub events_told : Reply → List Event
events_told r = r.first ∷ (map queued_event (take r.queues r.queued) ++ map Released (take r.count r.tickets))

-- at most two entries, with idle ones where there are no more
abbrev pub in_two : List Queued → List Queued
in_two xs = take 2 (xs ++ replicate 2 idle)

-- the same value with its unused places idle and zero
unfoldable pub tidied : Reply → Reply
tidied r = record {
  first = r.first;
  queued = in_two (take r.queues r.queued);
  queues = length (take r.queues r.queued);
  count = length (take r.count r.tickets);
  tickets = pad_to 8 (take r.count r.tickets);
}

-- a call's value and the slices after it are those of the outcome o of a call on L
pub record Leaves (o : Outcome Lent) (L : Lent) (r : Reply) (M : Lent) : Type 0 where
  pub tells : events_told r ≡ events_of o
  pub tidy : tidied r ≡ r
  pub left : M ≡ after L o
