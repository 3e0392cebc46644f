-- "The rounds of demand 3", of any calls of which a caller sees only what it can see: the events that a call tells, 0x11 among them, and
-- the tables that it leaves, refused or not. Every call gets the tables as the last one left them, refused offers included.
use Rattle.std.specs.Prelude.{ℕ, zero, suc, ◌+◌, ◌-◌, ◌≡◌, ◌⊎◌, Bool, true, not, ◌&&◌, List, [], ◌∷◌, map, length, get_or, eqb}
use Rattle.words.specs.Words.{pick, any, keep}
use Rattle.model.specs.Tables.{Entry, Tables, Outcome, after, events_of}
use Rattle.model.specs.Lent.{Lent, tables_of}
use Rattle.model.specs.Steps.{access, send, fill}
use Rattle.model.specs.Calls.{access_call, send_call, fill_call}
use Rattle.model.specs.Records.{record_kind_of}
use Rattle.model.specs.Rounds.{Turn, still, and_then, is_empty}
use Rattle.model.specs.declared.Settings.{Settings}
use Rattle.model.specs.declared.Access.{Access}
use Rattle.model.specs.declared.Event.{Event}
use Rattle.model.specs.declared.Event.TheVariants as event
use Rattle.model.specs.declared.Refusal.TheVariants.{SetHeld}

-- what the rounds call, as it is seen. "Settings and access, with its ticket or mask, are the same in every round"
pub record SeenCalls (T : Type 0) : Type 0 where
  pub sends : T → Turn T
  pub fills : ℕ → T → Turn T
  pub offers : T → Turn T
  pub tables : T → Tables

-- ---- events by their kind

-- kind 0x10
abbrev pub answering : Event → Bool
answering e = eqb (record_kind_of e) 0x10

-- kind 0x11
abbrev pub refusing : Event → Bool
refusing e = eqb (record_kind_of e) 0x11

-- "Accepted means answered without a refusal number."
abbrev pub accepts : List Event → Bool
accepts es = any answering es && not (any refusing es)

-- "0x11 is left out and nothing else"
abbrev pub but11 : List Event → List Event
but11 es = keep (λ e. not (refusing e)) es

module _ {T : Type 0} where
  -- what is compared: every number in the tables, and the events but 0x11
  abbrev pub comparable : Turn T → Turn T
  comparable a = record { events = but11 a.events; left = a.left }

-- ---- rounds that were run: all that they told and left, and what each offer told

pub record Course (T : Type 0) : Type 0 where
  pub turn : Turn T
  pub offers : List (List Event)

module _ {T : Type 0} where
  abbrev pub nothing : T → Course T
  nothing t = record { turn = still t; offers = [] }

  -- a round whose send and fill came to a and whose offer to o, and the rounds r after it
  abbrev pub round_then : Turn T → Turn T → Course T → Course T
  round_then a o r = record { turn = and_then a (λ t. and_then o (λ u. r.turn)); offers = o.events ∷ r.offers }

  -- "An accepted offer is the last call; after a refused one the next round begins", from what the refused one left
  abbrev pub go_on : Turn T → Turn T → (T → Course T) → Course T
  go_on a o rest = round_then a o (pick (accepts o.events) (nothing o.left) (rest o.left))

  -- "for each round, whether the first run accepted its offer in that round"
  abbrev pub marks : Course T → List Bool
  marks r = map accepts r.offers

module _ {T : Type 0} (C : SeenCalls T) where
  -- "send, if the queue isn't empty"
  unfoldable pub send_turn : T → Turn T
  send_turn t = pick (is_empty (C.tables t).queue) (still t) (C.sends t)

  -- "fill, at the address of the first entry then marked sent, if there is one"
  unfoldable pub fill_first : List Entry → T → Turn T
  fill_first [] t = still t
  fill_first (e ∷ es) t = pick e.sent (C.fills e.address t) (fill_first es t)

  unfoldable pub drain : T → Turn T
  drain t = and_then (send_turn t) (λ u. fill_first (C.tables u).misses u)

  -- n rounds at most, until the access is accepted
  unfoldable pub rounds : ℕ → T → Course T
  rounds zero t = nothing t
  rounds (suc n) t = go_on (drain t) (C.offers (drain t).left) (rounds n)

  -- "The access is offered only in a round marked accepted; in any other there is no third call."
  unfoldable pub struck : List Bool → T → Turn T
  struck [] t = still t
  struck (m ∷ ms) t = and_then (drain t) (λ u. and_then (pick m (C.offers u) (still u)) (struck ms))

  -- the offer of round n + 1 was made, and refused as 6
  abbrev pub held_in : ℕ → T → Type 0
  held_in n t = get_or (rounds (suc n) t).offers n [] ≡ event.Refused SetHeld ∷ []

  -- "no later than round q + m (round 1 if both are 0)": q + m - 1 rounds come before it
  abbrev pub waits : T → ℕ
  waits t = length (C.tables t).queue + length (C.tables t).misses - 1

  -- demand 3
  pub record Demand3 (t : T) : Type 0 where
    pub settles : (any accepts (rounds (suc (waits t)) t).offers ≡ true) ⊎ ((j : ℕ) → held_in (waits t + j) t)
    pub strikes : (n : ℕ) → comparable (struck (marks (rounds n t)) t) ≡ comparable (rounds n t).turn

-- ---- the calls of document 01

module _ {T : Type 0} where
  -- what is seen of a call on t that comes to o
  abbrev pub seen : T → Outcome T → Turn T
  seen t o = record { events = events_of o; left = after t o }

-- on the tables
abbrev pub seen_steps : Settings → Access → SeenCalls Tables
seen_steps S x = record { sends = λ t. seen t (send t); fills = λ a t. seen t (fill a t); offers = λ t. seen t (access S x t); tables = λ t. t }

-- on lent slices
abbrev pub seen_calls : Settings → Access → SeenCalls Lent
seen_calls S x = record { sends = λ L. seen L (send_call S L); fills = λ a L. seen L (fill_call S a L); offers = λ L. seen L (access_call S x L); tables = tables_of S }
