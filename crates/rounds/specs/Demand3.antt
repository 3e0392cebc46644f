-- Demand 3 of the calls: the rounds of document 01 and the struck rounds as two calls on the caller's slices (`rounds_call`, `struck_call`), made of
-- those of `cache`, and what is claimed of them (`SameRuns`, `Settled`). Document 01 has the rounds; that they are calls is decided here.
use Rattle.std.specs.Prelude.{Result, Ok, Err, ℕ, suc, ◌/◌, ◌≤◌, ◌<◌, ◌≡◌, ◌⊎◌, Bool, ◌&&◌, List, [], ◌∷◌, ◌++◌, map, length, take, drop, get_or, replicate, leb, eqb}
use Rattle.words.specs.Words.{pick}
use Rattle.model.specs.Tables.{Outcome, refused, done}
use Rattle.model.specs.Lent.{Lent, bit}
use Rattle.model.specs.Address.{well_formed}
use Rattle.model.specs.Calls.{check_call}
use Rattle.model.specs.Records.{log_bytes, Parsed, parsed, events_in, round_bytes}
use Rattle.model.specs.Rounds.{Turn}
use Rattle.model.specs.Seen.{but11, marks, rounds, struck, waits, seen_calls}
use Rattle.model.specs.declared.Settings.{Settings}
use Rattle.model.specs.declared.Access.{Access}
use Rattle.model.specs.declared.Refusal.TheVariants.{BadAccess, SetHeld}
use Rattle.model.specs.declared.Event.{Event}
use Rattle.model.specs.declared.Event.TheVariants as event
use Rattle.rounds.specs.declared.Went.{Went}
use Rattle.rounds.specs.declared.NotRun.{NotRun}
use Rattle.rounds.specs.declared.NotRun.TheVariants.{Refused, NoRoom}

-- ---- the two calls

-- what a call returns and leaves: its value, the slices, the event room, and what the bytes that it wrote read back as
pub record RoundsShown : Type 0 where
  pub went : Result Went NotRun
  pub left : Lent
  pub room : List ℕ
  pub told : Parsed

abbrev pub written_in : Result Went NotRun → List ℕ → List ℕ
written_in (Ok g) f = take g.written f
written_in (Err n) f = []

abbrev pub rounds_shown : Result Went NotRun → Lent → List ℕ → RoundsShown
rounds_shown r L f = record { went = r; left = L; room = f; told = events_in (written_in r f) }

-- k rounds that came to a: every event, 0x11 too, at the start of the room; "Event bytes beyond those written are unchanged."
abbrev pub ran_to : ℕ → Turn Lent → List ℕ → RoundsShown
ran_to k a e = record {
  went = Ok record { rounds = k; written = length (log_bytes a.events) };
  left = a.left;
  room = log_bytes a.events ++ drop (length (log_bytes a.events)) e;
  told = parsed a.events;
}

-- a send, a fill and an offer fit into `round_bytes`, a refusal with them
abbrev pub room_for : ℕ → List ℕ → Bool
room_for n e = leb n (length e / round_bytes)

-- a flag that is 1 marks an accepted offer
abbrev pub flags_marked : List ℕ → List Bool
flags_marked fl = map (λ b. eqb b 1) fl

-- refusals 1, 2 and 3, then 4, before the first round
abbrev pub formed : Access → Lent → Outcome Lent → Outcome Lent
formed x L (refused k) = refused k
formed x L (done es M) = pick (well_formed x) (done [] L) (refused BadAccess)

abbrev pub start_call : Settings → Access → Lent → Outcome Lent
start_call S x L = formed x L (check_call S L)

module _ (S : Settings) (x : Access) where
  -- refusals come first, then too few flags or bytes
  abbrev pub rounds_checked : ℕ → Lent → List ℕ → List ℕ → Outcome Lent → RoundsShown
  rounds_checked n L fl e (refused k) = rounds_shown (Err (Refused k)) L e
  rounds_checked n L fl e (done es M) =
      pick (leb n (length fl) && room_for n e) (ran_to (length (rounds (seen_calls S x) n L).offers) (rounds (seen_calls S x) n L).turn e) (rounds_shown (Err NoRoom) L e)

  -- n rounds at most, until the access is accepted
  unfoldable pub rounds_call : ℕ → Lent → List ℕ → List ℕ → RoundsShown
  rounds_call n L fl e = rounds_checked n L fl e (start_call S x L)

  -- the flags after them: 1 for each round whose offer was accepted, 0 for each other; those beyond are unchanged
  abbrev pub flags_checked : ℕ → Lent → List ℕ → List ℕ → Outcome Lent → List ℕ
  flags_checked n L fl e (refused k) = fl
  flags_checked n L fl e (done es M) =
      pick (leb n (length fl) && room_for n e) (map bit (marks (rounds (seen_calls S x) n L)) ++ drop (length (rounds (seen_calls S x) n L).offers) fl) fl

  unfoldable pub flags_call : ℕ → Lent → List ℕ → List ℕ → List ℕ
  flags_call n L fl e = flags_checked n L fl e (start_call S x L)

  abbrev pub struck_checked : Lent → List ℕ → List ℕ → Outcome Lent → RoundsShown
  struck_checked L fl e (refused k) = rounds_shown (Err (Refused k)) L e
  struck_checked L fl e (done es M) = pick (room_for (length fl) e) (ran_to (length fl) (struck (seen_calls S x) (flags_marked fl) L) e) (rounds_shown (Err NoRoom) L e)

  -- a struck round for each flag
  unfoldable pub struck_call : Lent → List ℕ → List ℕ → RoundsShown
  struck_call L fl e = struck_checked L fl e (start_call S x L)

-- ---- demand 3 of the two calls

-- a run that returned r₁ and left the slices M₁ and the event room f₁, and a struck run on a copy that returned r₂ and left M₂ and f₂: the same
-- tables; and the events that the bytes of each are, and read back as, are the same but for 0x11. e and d are the event rooms before them
pub record SameRuns (k : ℕ) (r₁ : Result Went NotRun) (M₁ : Lent) (e f₁ : List ℕ) (r₂ : Result Went NotRun) (M₂ : Lent) (d f₂ : List ℕ) : Type 0 where
  pub told : List Event
  pub struck : List Event
  pub first : rounds_shown r₁ M₁ f₁ ≡ ran_to k record { events = told; left = M₁ } e
  pub second : rounds_shown r₂ M₂ f₂ ≡ ran_to k record { events = struck; left = M₂ } d
  pub left : M₂ ≡ M₁
  pub events : but11 struck ≡ but11 told

-- "no later than round q + m (round 1 if both are 0)", of k rounds that were run and their flags gl: the last is accepted and no other
pub record InTime (most k : ℕ) (gl : List ℕ) : Type 0 where
  pub refusals : ℕ
  pub count : k ≡ suc refusals
  pub few : k ≤ most
  pub flags : take k gl ≡ replicate refusals 0 ++ (1 ∷ [])

-- all n rounds were run and none accepted, and the offers of round `most` and of every later one told 0x11 6 and nothing else
pub record HeldOn (most n k : ℕ) (gl : List ℕ) (offers : List (List Event)) : Type 0 where
  pub count : k ≡ n
  pub flags : take k gl ≡ replicate n 0
  pub held : (i : ℕ) → most ≤ suc i → i < n → get_or offers i [] ≡ event.Refused SetHeld ∷ []

-- of a run of n rounds on L that ran k and left the flags gl
abbrev pub Settled : Settings → Access → Lent → ℕ → ℕ → List ℕ → Type 0
Settled S x L n k gl =
    InTime (suc (waits (seen_calls S x) L)) k gl ⊎ HeldOn (suc (waits (seen_calls S x) L)) n k gl (rounds (seen_calls S x) n L).offers
