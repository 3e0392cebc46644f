-- What an access meets and what it queues, in the words of the theorems on the victim.
use Rattle.std.specs.Prelude.{ℕ, ◌≡◌, List, [], ◌∷◌, ◌++◌, map, get_or, Some, None}
use Rattle.model.specs.Address.{address_of, block_of, line_number}
use Rattle.model.specs.Tables.{Line, Tables, holds, fresh}
use Rattle.model.specs.Probe.{Rule, first, victim, Spot, at, write_back, met_in}
use Rattle.model.specs.Steps.{queues, queued_event}
use Rattle.model.specs.declared.Settings.{Settings}
use Rattle.model.specs.declared.Access.{Access}
use Rattle.model.specs.declared.Answer.TheVariants.{Miss}
use Rattle.model.specs.declared.Event.{Event}
use Rattle.model.specs.declared.Event.TheVariants.{Answered}

-- a way that matches
pub record Matched (ways : List Line) (x : Access) (p : Spot) : Type 0 where
  pub way : first (holds (block_of (address_of x))) ways ≡ Some p.way
  pub line : p.line ≡ get_or ways p.way fresh
  pub backs : p.backs ≡ []

-- a victim
pub record Replaced (R : Rule) (S : Settings) (d : ℕ) (ways : List Line) (x : Access) (p : Spot) : Type 0 where
  pub none : first (holds (block_of (address_of x))) ways ≡ None
  pub way : victim R S d ways ≡ Some p.way
  pub answer : p.answer ≡ Miss
  pub backs : p.backs ≡ write_back (get_or ways p.way fresh)

-- the queue after it is the queue before and exactly what it queues, and its events tell just that
pub record Queues (S : Settings) (x : Access) (t : Tables) (es : List Event) (u : Tables) : Type 0 where
  pub spot : Spot
  pub met : met_in S x t ≡ at spot
  pub queue : u.queue ≡ t.queue ++ queues x spot
  pub told : es ≡ Answered spot.answer (line_number S (address_of x) spot.way) ∷ map queued_event (queues x spot)
