-- What a call's value can hold, by call: its first event, and how many entries and tickets at the most. For whoever writes its events;
-- nothing here is document 01's.
use Rattle.std.specs.Prelude.{◌≡◌, Bool, true, false, ℕ, ◌≤◌}
use Rattle.model.specs.declared.Event.{Event}
use Rattle.model.specs.declared.Event.TheVariants.{Answered, Refused, ReadQueued, WriteBackQueued, Released, ReadSent, WriteBackSent, Filled, Ticked}
use Rattle.model.specs.declared.Reply.{Reply}

-- an access is answered or refused
abbrev pub of_access : Event → Bool
of_access (Answered a line) = true
of_access (Refused n) = true
of_access (ReadQueued a) = false
of_access (WriteBackQueued b m0 m1 m2 m3) = false
of_access (Released t) = false
of_access (ReadSent a) = false
of_access (WriteBackSent b m0 m1 m2 m3) = false
of_access (Filled a) = false
of_access Ticked = false

-- a send tells what was sent, or is refused
abbrev pub of_send : Event → Bool
of_send (Answered a line) = false
of_send (Refused n) = true
of_send (ReadQueued a) = false
of_send (WriteBackQueued b m0 m1 m2 m3) = false
of_send (Released t) = false
of_send (ReadSent a) = true
of_send (WriteBackSent b m0 m1 m2 m3) = true
of_send (Filled a) = false
of_send Ticked = false

-- a fill tells what was filled, or is refused
abbrev pub of_fill : Event → Bool
of_fill (Answered a line) = false
of_fill (Refused n) = true
of_fill (ReadQueued a) = false
of_fill (WriteBackQueued b m0 m1 m2 m3) = false
of_fill (Released t) = false
of_fill (ReadSent a) = false
of_fill (WriteBackSent b m0 m1 m2 m3) = false
of_fill (Filled a) = true
of_fill Ticked = false

-- a tick is done or refused
abbrev pub of_tick : Event → Bool
of_tick (Answered a line) = false
of_tick (Refused n) = true
of_tick (ReadQueued a) = false
of_tick (WriteBackQueued b m0 m1 m2 m3) = false
of_tick (Released t) = false
of_tick (ReadSent a) = false
of_tick (WriteBackSent b m0 m1 m2 m3) = false
of_tick (Filled a) = false
of_tick Ticked = true

-- r begins with such an event, and has so many entries and tickets at the most
pub record Shaped (begins : Event → Bool) (queues count : ℕ) (r : Reply) : Type 0 where
  pub first : begins r.first ≡ true
  pub entries : r.queues ≤ queues
  pub tickets : r.count ≤ count
