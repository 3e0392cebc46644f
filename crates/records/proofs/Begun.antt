-- How what a call tells begins, by call: of which variants its first event is none, and how many bytes it is at the most.
use Rattle.words.proofs.General.{ℕ, ◌≤◌, ◌≡◌, true, List, [], ◌∷◌, length, lit≤, false_is_true}
use types.Run.{OneOf, miss}
use denote.Enum.Declared.{tag_of}
use Rattle.model.specs.contracts.Event.{the_type}
use Rattle.model.specs.RecordsOf as records
use Rattle.model.proofs.Terms.{bytes_of, event_bytes, of_access, of_send, of_fill, of_tick}
use Rattle.model.specs.declared.Event.{Event}
use Rattle.model.specs.declared.Event.TheVariants.{Answered, Refused, ReadQueued, WriteBackQueued, Released, ReadSent, WriteBackSent, Filled, Ticked}

-- of none of the variants ks, by their places in the enum, and of n bytes at the most
pub record Begun (ks : List ℕ) (n : ℕ) (e : Event) : Type 0 where
  pub none : OneOf ks (tag_of the_type e) → ⊥
  pub most : length (event_bytes e) ≤ n

abbrev no_access : List ℕ
no_access = 2 ∷ 3 ∷ 4 ∷ 5 ∷ 6 ∷ 7 ∷ 8 ∷ []

abbrev no_send : List ℕ
no_send = 0 ∷ 2 ∷ 3 ∷ 4 ∷ 7 ∷ 8 ∷ []

abbrev no_fill : List ℕ
no_fill = 0 ∷ 2 ∷ 3 ∷ 4 ∷ 5 ∷ 6 ∷ 8 ∷ []

abbrev no_tick : List ℕ
no_tick = 0 ∷ 2 ∷ 3 ∷ 4 ∷ 5 ∷ 6 ∷ 7 ∷ []

pub record BegunAs (e : Event) : Type 0 where
  pub access : of_access e ≡ true → Begun no_access 4 e
  pub send : of_send e ≡ true → Begun no_send 25 e
  pub fill : of_fill e ≡ true → Begun no_fill 9 e
  pub tick : of_tick e ≡ true → Begun no_tick 2 e

pub begun_as : (e : Event) → BegunAs e
unfolding records.event_bytes bytes_of
begun_as (Answered a line) = record { access = λ h. record { none = miss no_access 0 tt; most = lit≤ tt }; send = false_is_true; fill = false_is_true; tick = false_is_true }
begun_as (Refused n) = record {
  access = λ h. record { none = miss no_access 1 tt; most = lit≤ tt };
  send = λ h. record { none = miss no_send 1 tt; most = lit≤ tt };
  fill = λ h. record { none = miss no_fill 1 tt; most = lit≤ tt };
  tick = λ h. record { none = miss no_tick 1 tt; most = lit≤ tt };
}
begun_as (ReadQueued a) = record { access = false_is_true; send = false_is_true; fill = false_is_true; tick = false_is_true }
begun_as (WriteBackQueued b m0 m1 m2 m3) = record { access = false_is_true; send = false_is_true; fill = false_is_true; tick = false_is_true }
begun_as (Released t) = record { access = false_is_true; send = false_is_true; fill = false_is_true; tick = false_is_true }
begun_as (ReadSent a) = record { access = false_is_true; send = λ h. record { none = miss no_send 5 tt; most = lit≤ tt }; fill = false_is_true; tick = false_is_true }
begun_as (WriteBackSent b m0 m1 m2 m3) = record { access = false_is_true; send = λ h. record { none = miss no_send 6 tt; most = lit≤ tt }; fill = false_is_true; tick = false_is_true }
begun_as (Filled a) = record { access = false_is_true; send = false_is_true; fill = λ h. record { none = miss no_fill 7 tt; most = lit≤ tt }; tick = false_is_true }
begun_as Ticked = record { access = false_is_true; send = false_is_true; fill = false_is_true; tick = λ h. record { none = miss no_tick 8 tt; most = lit≤ tt } }
