-- "reads, writes, sends, fills and ticks" in a row: one call, what it does to the tables and to lent slices, and what a history of calls
-- told and left. Every call gets the tables as the last one left them, refused or not.
use Rattle.std.specs.Prelude.{ℕ, ◌≤◌, List, [], ◌∷◌, ◌++◌}
use Rattle.model.specs.Address.{mask_of}
use Rattle.model.specs.Tables.{Tables, Outcome, after, events_of}
use Rattle.model.specs.Sound.{all_ones}
use Rattle.model.specs.Probe.{Rules}
use Rattle.model.specs.Steps.{access_under, access, send, fill, tick}
use Rattle.model.specs.Lent.{Lent}
use Rattle.model.specs.Calls.{access_call, send_call, fill_call, tick_call}
use Rattle.model.specs.declared.Settings.{Settings}
use Rattle.model.specs.declared.Access.{Access}
use Rattle.model.specs.declared.Event.{Event}

pub data Call : Type 0 where
  offer : Access → Call
  sending : Call
  filling : ℕ → Call
  ticking : ℕ → Call

-- ---- one call

-- on the tables, with this for an access
abbrev pub step_with : (Access → Tables → Outcome Tables) → Call → Tables → Outcome Tables
step_with accesses (offer x) t = accesses x t
step_with accesses sending t = send t
step_with accesses (filling a) t = fill a t
step_with accesses (ticking c) t = tick c t

-- under the rules R, and under the settings' own
abbrev pub step_under : Rules → Settings → Call → Tables → Outcome Tables
step_under R S = step_with (access_under R S)

abbrev pub step_by : Settings → Call → Tables → Outcome Tables
step_by S = step_with (access S)

-- on lent slices
abbrev pub make : Settings → Call → Lent → Outcome Lent
make S (offer x) = access_call S x
make S sending = send_call S
make S (filling a) = fill_call S a
make S (ticking c) = tick_call S c

-- a mask is a 32-bit number: the code knows that by its type
abbrev pub SmallCall : Call → Type 0
SmallCall (offer x) = mask_of x ≤ all_ones
SmallCall sending = Unit {0}
SmallCall (filling a) = Unit {0}
SmallCall (ticking c) = Unit {0}

abbrev pub AllSmall : List Call → Type 0
AllSmall [] = Unit {0}
AllSmall (k ∷ ks) = SmallCall k × AllSmall ks

-- ---- calls in a row

-- a call, and the events that it gave
pub record Made : Type 0 where
  pub call : Call
  pub events : List Event

-- on tables of any kind "that nobody else writes": what was made, and what is left
module _ {T : Type 0} (step : Call → T → Outcome T) where
  unfoldable pub history : List Call → T → List Made
  history [] t = []
  history (k ∷ ks) t = record { call = k; events = events_of (step k t) } ∷ history ks (after t (step k t))

  unfoldable pub tables_left : List Call → T → T
  tables_left [] t = t
  tables_left (k ∷ ks) t = tables_left ks (after t (step k t))

-- all its events, one call after another
abbrev pub events_made : List Made → List Event
events_made [] = []
events_made (m ∷ ms) = m.events ++ events_made ms
