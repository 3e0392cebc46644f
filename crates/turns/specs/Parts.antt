-- What the parts of a round ask and promise, on slices that are the encoding of sound tables. Nothing here is document 01's.
use Rattle.std.specs.Prelude.{Option, Some, None, ℕ, suc, ◌+◌, ◌-◌, ◌≤◌, ◌≡◌, Bool, true, false, List, [], ◌∷◌, ◌++◌, length}
use Rattle.std.proofs.lemmas.List.Edits.{sets}
use Rattle.words.specs.Words.{pick}
use Rattle.model.specs.Tables.{Entry, Tables, Outcome, after, events_of}
use Rattle.model.specs.Lent.{Lent}
use Rattle.model.specs.Calls.{events_told, tidied}
use Rattle.model.specs.Inner.{Encodes}
use Rattle.model.specs.Records.{log_bytes, fill_bytes, round_bytes, settle_bytes}
use Rattle.model.specs.Rounds.{steps, Turn, took, outcome_send, outcome_fill, outcome_drain}
use Rattle.model.specs.Steps.{access}
use Rattle.model.specs.declared.Settings.{Settings}
use Rattle.model.specs.declared.Access.{Access}
use Rattle.model.specs.declared.Event.{Event}
use Rattle.model.specs.declared.Event.TheVariants.{Answered, Refused, ReadQueued, WriteBackQueued, Released, ReadSent, WriteBackSent, Filled, Ticked}
use Rattle.model.specs.declared.Reply.{Reply}
use Rattle.records.specs.Fitting.{AllFitting}
use Rattle.turns.specs.declared.Round.{Round}

-- ---- what a call told

abbrev pub is_refusal : Event → Bool
is_refusal (Answered a l) = false
is_refusal (Refused n) = true
is_refusal (ReadQueued a) = false
is_refusal (WriteBackQueued b m0 m1 m2 m3) = false
is_refusal (Released k) = false
is_refusal (ReadSent a) = false
is_refusal (WriteBackSent b m0 m1 m2 m3) = false
is_refusal (Filled a) = false
is_refusal Ticked = false

-- "0x11 is left out and nothing else"
abbrev pub noted : Reply → List Event
noted r = pick (is_refusal r.first) [] (events_told r)

-- the bytes of these events stand behind the first `out`, and every number of theirs fits its bytes
pub record Noted (e : List ℕ) (out : ℕ) (es : List Event) (w : ℕ) (f : List ℕ) : Type 0 where
  pub next : w ≡ out + length (log_bytes es)
  pub slice : f ≡ sets e out (log_bytes es)
  pub fits : AllFitting es

-- ---- a round

-- the address of the first entry marked sent
abbrev pub first_sent : List Entry → Option ℕ
first_sent [] = None
first_sent (e ∷ es) = pick e.sent (Some e.address) (first_sent es)

pub record FindsSent (S : Settings) (L : Lent) (r : Option ℕ) : Type 0 where
  pub on : (t : Tables) → Encodes S L t → r ≡ first_sent t.misses

-- the calls of a on the tables t wrote behind `out` bytes and left M
pub record CallsWrote (S : Settings) (a : Turn Tables) (e : List ℕ) (out w : ℕ) (f : List ℕ) (M : Lent) : Type 0 where
  pub are : Encodes S M a.left
  pub bytes : Noted e out a.events w f

-- a round's send, and its fill, whatever is offered
pub record Sends (S : Settings) (L : Lent) (e : List ℕ) (out w : ℕ) (f : List ℕ) (M : Lent) : Type 0 where
  pub on : (x : Access) (t : Tables) → Encodes S L t → CallsWrote S (outcome_send (steps S x) t) e out w f M
  pub short : w ≤ out + 25

pub record Fills (S : Settings) (L : Lent) (e : List ℕ) (out w : ℕ) (f : List ℕ) (M : Lent) : Type 0 where
  pub on : (x : Access) (t : Tables) → Encodes S L t → CallsWrote S (outcome_fill (steps S x) t.misses t) e out w f M
  pub short : w ≤ out + fill_bytes

-- a round whose offer came to o on the tables u, which its send and fill left
pub record RoundOffered (S : Settings) (a : Turn Tables) (o : Outcome Tables) (e : List ℕ) (out : ℕ) (r : Round) (f : List ℕ) (M : Lent) : Type 0 where
  pub are : Encodes S M (after a.left o)
  pub tells : events_told r.reply ≡ events_of o
  pub tidy : tidied r.reply ≡ r.reply
  pub bytes : Noted e out (a.events ++ (took a.left o).events) r.written f

pub record Offers (S : Settings) (x : Access) (L : Lent) (e : List ℕ) (out : ℕ) (r : Round) (f : List ℕ) (M : Lent) : Type 0 where
  pub on : (t : Tables) → Encodes S L t → RoundOffered S (outcome_drain (steps S x) t) (access S x (outcome_drain (steps S x) t).left) e out r f M
  pub short : r.written ≤ out + round_bytes
  -- a send and a fill alone
  pub refused : is_refusal r.reply.first ≡ true → r.written ≤ out + settle_bytes

-- ---- how many rounds settle it

-- round max(1, q + m)
pub record Enough (S : Settings) (L : Lent) (r : ℕ) : Type 0 where
  pub on : (t : Tables) → Encodes S L t → r ≡ suc (length t.queue + length t.misses - 1)
  pub few : r ≤ 128
