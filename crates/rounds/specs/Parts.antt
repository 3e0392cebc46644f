-- What the inner functions ask and promise: those of `wait`, then those of the rounds and the struck rounds. Nothing here is document 01's.
use Rattle.std.specs.Prelude.{Result, Ok, Err, ℕ, ◌+◌, ◌≤◌, ◌≡◌, Bool, List, [], ◌++◌, map, length, drop}
use Rattle.words.specs.Words.{pick}
use Rattle.model.specs.Address.{mask_of}
use Rattle.model.specs.Sound.{all_ones}
use Rattle.model.specs.Tables.{Tables, refused, done}
use Rattle.model.specs.Lent.{Lent, bit, encode, tables_of}
use Rattle.model.specs.Inner.{Encodes, SoundSlices}
use Rattle.model.specs.Rounds.{steps, Turn, still, and_then, is_empty, outcome_rounds}
use Rattle.model.specs.Seen.{SeenCalls, accepts, marks, send_turn, fill_first, drain, rounds, struck, seen_calls}
use Rattle.model.specs.declared.Settings.{Settings}
use Rattle.model.specs.declared.Access.{Access}
use Rattle.model.specs.declared.Refusal.{Refusal}
use Rattle.layout.specs.declared.geometry.Geometry.{Geometry}
use Rattle.model.specs.Records.{fill_bytes, round_bytes, settle_bytes}
use Rattle.turns.specs.Parts.{Noted}
use Rattle.rounds.specs.declared.Waited.{Waited}
use Rattle.rounds.specs.declared.Went.{Went}
use Rattle.rounds.specs.declared.Offer.{Offer}
use Rattle.rounds.specs.Waiting.{Wait, settled, turned_away, wait_call, Waits}
use Rattle.rounds.specs.Demand3.{rounds_shown, ran_to, flags_marked, start_call}

-- ---- the rounds of `wait`

abbrev pub lent_wait : Settings → Wait Tables → Wait Lent
lent_wait S w = record { waiting = w.waiting; events = w.events; left = encode S w.left }

-- n rounds at most, on sound tables
pub record RoundsSettle (S : Settings) (x : Access) (n : ℕ) (L : Lent) (e : List ℕ) (r : Waited) (f : List ℕ) (M : Lent) : Type 0 where
  pub on : (t : Tables) → Encodes S L t → Waits (lent_wait S (settled (outcome_rounds (steps S x) n t))) e r f M

-- ---- the checks before them

pub record TurnsAway (n : Refusal) (e : List ℕ) (r : Waited) (f : List ℕ) : Type 0 where
  pub on : (L : Lent) → Waits (turned_away n L) e r f L

-- behind the check of refusals 1, 2 and 3
pub record WaitsHeld (S : Settings) (x : Access) (L : Lent) (e : List ℕ) (r : Waited) (f : List ℕ) (M : Lent) : Type 0 where
  pub on : (t : Tables) → Encodes S L t → Waits (wait_call S x L) e r f M

-- ---- the rounds and the struck rounds

-- the check before the first round
pub record MayRun (S : Settings) (x : Access) (L : Lent) (r : Result Geometry Refusal) : Type 0 where
  pub refuses : (n : Refusal) → r ≡ Err n → start_call S x L ≡ refused n
  pub passes : (g : Geometry) → r ≡ Ok g → start_call S x L ≡ done [] L
  pub own : (g : Geometry) → r ≡ Ok g → g.settings ≡ S
  pub held : (g : Geometry) → r ≡ Ok g → SoundSlices g.settings L
  pub small : (g : Geometry) → r ≡ Ok g → mask_of x ≤ all_ones

-- the others are on slices that are the encoding of sound tables

pub record Queueless (S : Settings) (L : Lent) (r : Bool) : Type 0 where
  pub is : r ≡ is_empty (tables_of S L).queue

-- calls that came to a, every event written behind `out` bytes; the slices are sound again
pub record Sees (S : Settings) (a : Turn Lent) (e : List ℕ) (out w : ℕ) (f : List ℕ) (M : Lent) : Type 0 where
  pub left : M ≡ a.left
  pub bytes : Noted e out a.events w f
  pub held : SoundSlices S M

-- a round's send, its fill, both, whatever is offered
pub record SeesSend (S : Settings) (L : Lent) (e : List ℕ) (out w : ℕ) (f : List ℕ) (M : Lent) : Type 0 where
  pub on : (x : Access) → Sees S (send_turn (seen_calls S x) L) e out w f M
  pub short : w ≤ out + 25

pub record SeesFill (S : Settings) (L : Lent) (e : List ℕ) (out w : ℕ) (f : List ℕ) (M : Lent) : Type 0 where
  pub on : (x : Access) → Sees S (fill_first (seen_calls S x) (tables_of S L).misses L) e out w f M
  pub short : w ≤ out + fill_bytes

pub record SeesDrain (S : Settings) (L : Lent) (e : List ℕ) (out w : ℕ) (f : List ℕ) (M : Lent) : Type 0 where
  pub on : (x : Access) → Sees S (drain (seen_calls S x) L) e out w f M
  pub short : w ≤ out + settle_bytes

-- a round: its send, its fill, its offer
abbrev pub round_turn : SeenCalls Lent → Lent → Turn Lent
round_turn C L = and_then (drain C L) (λ u. C.offers u)

pub record SeesRound (S : Settings) (x : Access) (L : Lent) (e : List ℕ) (out : ℕ) (r : Offer) (f : List ℕ) (M : Lent) : Type 0 where
  pub on : Sees S (round_turn (seen_calls S x) L) e out r.written f M
  pub taken : r.taken ≡ accepts ((seen_calls S x).offers (drain (seen_calls S x) L).left).events
  pub short : r.written ≤ out + round_bytes

-- a round of the struck rounds
abbrev pub struck_turn : SeenCalls Lent → Bool → Lent → Turn Lent
struck_turn C m L = and_then (drain C L) (λ u. pick m (C.offers u) (still u))

pub record SeesStruck (S : Settings) (x : Access) (m : Bool) (L : Lent) (e : List ℕ) (out w : ℕ) (f : List ℕ) (M : Lent) : Type 0 where
  pub on : Sees S (struck_turn (seen_calls S x) m L) e out w f M
  pub short : w ≤ out + round_bytes

-- the rounds, and the struck rounds, behind the checks
pub record RunsOn (S : Settings) (x : Access) (n : ℕ) (L : Lent) (fl e : List ℕ) (r : Went) (M : Lent) (gl f : List ℕ) : Type 0 where
  pub shows : rounds_shown (Ok r) M f ≡ ran_to (length (rounds (seen_calls S x) n L).offers) (rounds (seen_calls S x) n L).turn e
  pub flags : gl ≡ map bit (marks (rounds (seen_calls S x) n L)) ++ drop (length (rounds (seen_calls S x) n L).offers) fl

pub record StrikesOn (S : Settings) (x : Access) (L : Lent) (fl e : List ℕ) (r : Went) (M : Lent) (f : List ℕ) : Type 0 where
  pub shows : rounds_shown (Ok r) M f ≡ ran_to (length fl) (struck (seen_calls S x) (flags_marked fl) L) e
