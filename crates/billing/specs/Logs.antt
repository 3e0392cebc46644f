-- The events of a log up to the first place where no whole event stands, and the bill of those.
use Rattle.std.specs.Prelude.{ℕ, zero, suc, Option, Some, None, List, [], ◌∷◌, length}
use Rattle.model.specs.declared.Event.{Event}
use Rattle.records.specs.declared.Item.{Item}
use Rattle.records.specs.declared.Item.TheVariants as item
use Rattle.records.specs.Items.{item_at}
use Rattle.billing.specs.declared.Bill.{Bill}
use Rattle.billing.specs.declared.Billed.{Billed}
use Rattle.billing.specs.Bills.{all_added}

-- an event and the place behind it
pub record Passed : Type 0 where
  pub event : Event
  pub next : ℕ

-- that, or none
abbrev pub log_step_of : Item → Option Passed
log_step_of (item.Event e next) = Some (record { event = e; next = next })
log_step_of (item.Command c next) = None
log_step_of item.End = None
log_step_of (item.Cut k wants left) = None
log_step_of (item.Unknown k) = None
log_step_of (item.Strange k) = None

unfoldable pub log_step_at : List ℕ → ℕ → Option Passed
log_step_at s at = log_step_of (item_at s at)

-- events, and the place behind the last
pub record LogEvents : Type 0 where
  pub events : List Event
  pub end : ℕ

abbrev pub event_before : Event → LogEvents → LogEvents
event_before e p = record { events = e ∷ p.events; end = p.end }

abbrev pub nothing_at : ℕ → LogEvents
nothing_at at = record { events = []; end = at }

-- by the step at a place, p being what follows it
abbrev pub part_by : Option Passed → ℕ → LogEvents → LogEvents
part_by (Some v) at p = event_before v.event p
part_by None at p = nothing_at at

abbrev pub step_end : Option Passed → ℕ → ℕ
step_end (Some v) at = v.next
step_end None at = at

-- from a place on, n events at most
unfoldable pub part_from : ℕ → List ℕ → ℕ → LogEvents
part_from zero s at = nothing_at at
part_from (suc n) s at = part_by (log_step_at s at) at (part_from n s (step_end (log_step_at s at) at))

-- an event is a byte or more
unfoldable pub log_events : List ℕ → LogEvents
log_events s = part_from (length s) s 0

unfoldable pub billed_log : Bill → List ℕ → Billed
billed_log b s = record { bill = all_added b (log_events s).events; next = (log_events s).end }
