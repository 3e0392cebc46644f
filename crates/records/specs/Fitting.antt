-- Events, commands and tickets whose numbers fit the bytes that document 01 gives them.
use Rattle.std.specs.Prelude.{ℕ, ◌^◌, ◌≤◌, ◌<◌, Bool, List, [], ◌∷◌, leb, Option, Some, None}
use Rattle.words.specs.Words.{all}
use Rattle.model.specs.Tables.{Tables}
use Rattle.model.specs.Sound.{all_ones}
use Rattle.model.specs.declared.Access.{Access}
use Rattle.model.specs.declared.Access.TheVariants.{Read, Write}
use Rattle.model.specs.declared.Given.{Given}
use Rattle.model.specs.declared.Event.{Event}
use Rattle.model.specs.declared.Event.TheVariants as ev
use Rattle.model.specs.declared.Command.{Command}
use Rattle.model.specs.declared.Command.TheVariants as cmd

-- block 8 bytes, masks 4 each
pub record WriteBackFits (b m0 m1 m2 m3 : ℕ) : Type 0 where
  pub block : b < 2 ^ 64
  pub mask0 : m0 < 2 ^ 32
  pub mask1 : m1 < 2 ^ 32
  pub mask2 : m2 < 2 ^ 32
  pub mask3 : m3 < 2 ^ 32

abbrev pub Fitting : Event → Type 0
Fitting (ev.Answered a line) = line < 2 ^ 16
Fitting (ev.Refused n) = Unit
Fitting (ev.ReadQueued a) = a < 2 ^ 64
Fitting (ev.WriteBackQueued b m0 m1 m2 m3) = WriteBackFits b m0 m1 m2 m3
Fitting (ev.Released t) = t < 2 ^ 32
Fitting (ev.ReadSent a) = a < 2 ^ 64
Fitting (ev.WriteBackSent b m0 m1 m2 m3) = WriteBackFits b m0 m1 m2 m3
Fitting (ev.Filled a) = a < 2 ^ 64
Fitting ev.Ticked = Unit

abbrev pub AllFitting : List Event → Type 0
AllFitting [] = Unit
AllFitting (e ∷ es) = Fitting e × AllFitting es

-- sets 2 bytes, the other settings 1 each
abbrev pub RuleFits : Option ℕ → Type 0
RuleFits None = Unit
RuleFits (Some r) = r < 2 ^ 8

pub record GivenFits (g : Given) : Type 0 where
  pub sets : g.sets < 2 ^ 16
  pub ways : g.ways < 2 ^ 8
  pub dirty : g.dirty < 2 ^ 8
  pub misses : g.misses < 2 ^ 8
  pub readers : g.readers < 2 ^ 8
  pub queue : g.queue < 2 ^ 8
  pub rule : RuleFits g.rule

abbrev pub CommandFits : Command → Type 0
CommandFits (cmd.Settings g) = GivenFits g
CommandFits (cmd.Read a k) = (a < 2 ^ 64) × (k < 2 ^ 32)
CommandFits (cmd.Write a m) = (a < 2 ^ 64) × (m < 2 ^ 32)
CommandFits cmd.Send = Unit
CommandFits (cmd.Fill a) = a < 2 ^ 64
CommandFits (cmd.Tick c) = c < 2 ^ 32

-- of a body that was read
abbrev pub CommandReadFits : Option Command → Type 0
CommandReadFits (Some c) = CommandFits c
CommandReadFits None = Unit

-- ---- tickets of 32 bits

abbrev pub words : List ℕ → Bool
words ms = all (λ m. leb m all_ones) ms

-- the tickets of the miss entries
abbrev pub stamped : Tables → Bool
stamped t = all (λ e. words e.tickets) t.misses

-- the ticket that an access may leave in an entry
abbrev pub TicketFits : Access → Type 0
TicketFits (Read a m k) = k ≤ all_ones
TicketFits (Write a m k) = Unit
