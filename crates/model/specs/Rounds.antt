-- The rounds of calls that come to outcomes, and where they settle: for proofs and inner functions alone. A refused outcome has no tables, so
-- these rounds cannot say what a refused call leaves; demand 3 is said in `Seen`, of what a caller sees.
use Rattle.std.specs.Prelude.{ℕ, zero, suc, ◌+◌, ◌-◌, ◌≡◌, ◌⊎◌, Bool, true, false, List, [], ◌∷◌, ◌++◌, length, get_or}
use Rattle.words.specs.Words.{pick, any}
use Rattle.model.specs.Tables.{Entry, Tables, Outcome, refused, done, accepted}
use Rattle.model.specs.Lent.{Lent, tables_of}
use Rattle.model.specs.Steps.{access, send, fill}
use Rattle.model.specs.Calls.{access_call, send_call, fill_call}
use Rattle.model.specs.declared.Settings.{Settings}
use Rattle.model.specs.declared.Queued.{Queued}
use Rattle.model.specs.declared.Access.{Access}
use Rattle.model.specs.declared.Event.{Event}
use Rattle.model.specs.declared.Refusal.TheVariants.{SetHeld}

-- what the rounds call: "Settings and access, with its ticket or mask, are the same in every round"
pub record Calls (T : Type 0) : Type 0 where
  pub sends : T → Outcome T
  pub fills : ℕ → T → Outcome T
  pub offers : T → Outcome T
  pub tables : T → Tables

abbrev pub steps : Settings → Access → Calls Tables
steps S x = record { sends = send; fills = fill; offers = access S x; tables = λ t. t }

abbrev pub calls : Settings → Access → Calls Lent
calls S x = record { sends = send_call S; fills = fill_call S; offers = access_call S x; tables = tables_of S }

-- what a call, or several, wrote and left; "0x11 is left out and nothing else"
pub record Turn (T : Type 0) : Type 0 where
  pub events : List Event
  pub left : T

module _ {T : Type 0} where
  abbrev pub still : T → Turn T
  still t = record { events = []; left = t }

  abbrev pub took : T → Outcome T → Turn T
  took t (refused n) = still t
  took t (done es u) = record { events = es; left = u }

  abbrev pub and_then : Turn T → (T → Turn T) → Turn T
  and_then a f = record { events = a.events ++ (f a.left).events; left = (f a.left).left }

-- rounds that were run: what they wrote and left, and what each offer came to
pub record Run (T : Type 0) : Type 0 where
  pub turn : Turn T
  pub offers : List (Outcome T)

module _ {T : Type 0} where
  abbrev pub round_before : Turn T → Outcome T → Run T → Run T
  round_before a o r = record { turn = and_then a (λ t. r.turn); offers = o ∷ r.offers }

  -- "An accepted offer is the last call; after a refused one the next round begins."
  abbrev pub outcome_go_on : Turn T → (T → Run T) → Outcome T → Run T
  outcome_go_on a rest (refused n) = round_before a (refused n) (rest a.left)
  outcome_go_on a rest (done es u) = round_before a (done es u) (record { turn = record { events = es; left = u }; offers = [] })

abbrev pub is_empty : List Queued → Bool
is_empty [] = true
is_empty (x ∷ q) = false

module _ {T : Type 0} (C : Calls T) where
  -- "send, if the queue isn't empty"
  unfoldable pub outcome_send : T → Turn T
  outcome_send t = pick (is_empty (C.tables t).queue) (still t) (took t (C.sends t))

  -- "fill, at the address of the first entry then marked sent, if there is one"
  unfoldable pub outcome_fill : List Entry → T → Turn T
  outcome_fill [] t = still t
  outcome_fill (e ∷ es) t = pick e.sent (took t (C.fills e.address t)) (outcome_fill es t)

  unfoldable pub outcome_drain : T → Turn T
  outcome_drain t = and_then (outcome_send t) (λ u. outcome_fill (C.tables u).misses u)

  -- n rounds at most, until the access is accepted
  unfoldable pub outcome_rounds : ℕ → T → Run T
  outcome_rounds zero t = record { turn = still t; offers = [] }
  outcome_rounds (suc n) t = outcome_go_on (outcome_drain t) (outcome_rounds n) (C.offers (outcome_drain t).left)

  -- the offer of round n + 1 was refused as 6
  abbrev pub outcome_held : ℕ → T → Type 0
  outcome_held n t = get_or (outcome_rounds (suc n) t).offers n (done [] t) ≡ refused SetHeld

  -- "no later than round q + m (round 1 if both are 0)": q + m - 1 rounds come before it
  abbrev pub outcome_waits : T → ℕ
  outcome_waits t = length (C.tables t).queue + length (C.tables t).misses - 1

  -- demand 3 without the struck rounds
  pub record Settles (t : T) : Type 0 where
    pub settles : (any accepted (outcome_rounds (suc (outcome_waits t)) t).offers ≡ true) ⊎ ((j : ℕ) → outcome_held (outcome_waits t + j) t)
