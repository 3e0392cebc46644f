-- Waiting for an access: the rounds of demand 3 until it is accepted, or as many as demand 3 says are enough. Document 01 has the rounds;
-- that they are a call, and what it returns, is decided here.
use Rattle.std.specs.Prelude.{Result, Ok, Err, ℕ, suc, ◌≡◌, List, [], ◌∷◌, ◌++◌, length, take, drop, get_or, leb}
use Rattle.words.specs.Words.{pick}
use Rattle.model.specs.Address.{well_formed}
use Rattle.model.specs.Tables.{Outcome, refused, done}
use Rattle.model.specs.Lent.{Lent}
use Rattle.model.specs.Calls.{check_call}
use Rattle.model.specs.Records.{log_bytes, parsed, events_in}
pub use Rattle.model.specs.Records.{wait_room}
use Rattle.model.specs.Rounds.{Run}
use Rattle.model.specs.Seen.{accepts, but11, Course, rounds, waits, seen_calls}
use Rattle.model.specs.declared.Settings.{Settings}
use Rattle.model.specs.declared.Access.{Access}
use Rattle.model.specs.declared.Refusal.{Refusal}
use Rattle.model.specs.declared.Refusal.TheVariants.{BadAccess, SetHeld}
use Rattle.model.specs.declared.Event.{Event}
use Rattle.model.specs.declared.Event.TheVariants as event
use Rattle.rounds.specs.declared.Accepted.{Accepted}
use Rattle.rounds.specs.declared.NotAccepted.{NotAccepted}
use Rattle.rounds.specs.declared.NotAccepted.TheVariants.{Held, Refused, NoRoom}
use Rattle.rounds.specs.declared.Waited.{Waited}

abbrev pub Waiting : Type 0
Waiting = Result Accepted NotAccepted

-- what waiting says, writes and leaves
pub record Wait (T : Type 0) : Type 0 where
  pub waiting : Waiting
  pub events : List Event
  pub left : T

-- what the last of the offers told
abbrev pub last_told : List Event → List (List Event) → List Event
last_told es [] = es
last_told es (fs ∷ os) = last_told fs os

-- by the last offer, made in round n: accepted, with its first event, the answer; or refused, which is 6 by demand 3
abbrev pub waiting_by : ℕ → List Event → Waiting
waiting_by n es = pick (accepts es) (Ok record { round = n; answer = get_or es 0 event.Ticked }) (Err Held)

-- the refusal of the last offer is written, those before it are not
abbrev pub refusal_in : List Event → List Event
refusal_in es = pick (accepts es) [] es

module _ {T : Type 0} where
  -- of rounds that were run, with offers made
  abbrev pub comes_to : Course T → Wait T
  comes_to r = record {
    waiting = waiting_by (length r.offers) (last_told (event.Refused SetHeld ∷ []) r.offers);
    events = but11 r.turn.events ++ refusal_in (last_told (event.Refused SetHeld ∷ []) r.offers);
    left = r.turn.left;
  }

-- the same of rounds whose calls come to outcomes, which the inner functions speak of
module _ {T : Type 0} where
  abbrev pub last_offer : Outcome T → List (Outcome T) → Outcome T
  last_offer o [] = o
  last_offer o (p ∷ ps) = last_offer p ps

  abbrev pub waiting_of : ℕ → Outcome T → Waiting
  waiting_of n (refused k) = Err Held
  waiting_of n (done es u) = Ok record { round = n; answer = get_or es 0 event.Ticked }

  abbrev pub refusal_told : Outcome T → List Event
  refusal_told (refused k) = event.Refused k ∷ []
  refusal_told (done es u) = []

  abbrev pub settled : Run T → Wait T
  settled r = record {
    waiting = waiting_of (length r.offers) (last_offer (refused SetHeld) r.offers);
    events = r.turn.events ++ refusal_told (last_offer (refused SetHeld) r.offers);
    left = r.turn.left;
  }

  -- refused before the first round
  abbrev pub turned_away : Refusal → T → Wait T
  turned_away n t = record { waiting = Err (Refused n); events = event.Refused n ∷ []; left = t }

-- "no later than round q + m (round 1 if both are 0)"
abbrev pub enough_rounds : Settings → Access → Lent → Wait Lent
enough_rounds S x L = comes_to (rounds (seen_calls S x) (suc (waits (seen_calls S x) L)) L)

abbrev pub wait_checked : Settings → Access → Lent → Outcome Lent → Wait Lent
wait_checked S x L (refused n) = turned_away n L
wait_checked S x L (done es M) = pick (well_formed x) (enough_rounds S x L) (turned_away BadAccess L)

-- refusals 1, 2 and 3, then 4, as everywhere; then the rounds
unfoldable pub wait_call : Settings → Access → Lent → Wait Lent
wait_call S x L = wait_checked S x L (check_call S L)

-- ---- with the events in a buffer that the caller lends

-- with `wait_room` bytes the events of any wait fit
abbrev pub wait_within : ℕ → Settings → Access → Lent → Wait Lent
wait_within room S x L = pick (leb wait_room room) (wait_call S x L) record { waiting = Err NoRoom; events = []; left = L }

-- the value returned, the event bytes ("beyond those written are unchanged") and the slices after it are those of w, and the bytes written read
-- back as its events
pub record Waits (w : Wait Lent) (e : List ℕ) (r : Waited) (f : List ℕ) (M : Lent) : Type 0 where
  pub waiting : r.waiting ≡ w.waiting
  pub written : r.written ≡ length (log_bytes w.events)
  pub events : f ≡ log_bytes w.events ++ drop (length (log_bytes w.events)) e
  pub reads : events_in (take r.written f) ≡ parsed w.events
  pub left : M ≡ w.left
