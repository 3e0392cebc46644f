-- The plan of an access whose place is known: refused by the queue or the miss table, or what becomes of the miss table.
use Rattle.std.specs.Prelude.{◌≡◌, ℕ, suc, ◌+◌, ◌<◌, true, ◌&&◌, List, [], ◌∷◌, length, get_or, ltb, leb, Result, Ok, Err}
use Rattle.words.specs.Words.{pick, any}
use Rattle.model.specs.Address.{address_of, is_read, well_formed, line_number}
use Rattle.model.specs.Range.{lines_of}
use Rattle.model.specs.Tables.{Entry, Tables, Outcome, refused, entry_for, no_entry}
use Rattle.model.specs.Lent.{Lent}
use Rattle.model.specs.Probe.{Spot, at, ways_of, met_in}
use Rattle.model.specs.Steps.{is_merge, is_miss, places_needed, accept, proceed}
use Rattle.model.specs.Calls.{Leaves, encoded}
use Rattle.model.specs.Inner.{Encodes}
use Rattle.model.specs.declared.Settings.{Settings}
use Rattle.model.specs.declared.Access.{Access}
use Rattle.model.specs.declared.Access.TheVariants.{Read, Write}
use Rattle.model.specs.declared.Refusal.{Refusal}
use Rattle.model.specs.declared.Refusal.TheVariants.{QueueFull, EntryFull, MissTableFull}
use Rattle.model.specs.declared.Event.TheVariants as event
use Rattle.model.specs.declared.Reply.{Reply}
use Rattle.probe.specs.declared.Decision.{Decision}
use Rattle.probe.specs.Decided.{place_is}
use Rattle.layout.specs.declared.Layout.{Layout}
use Rattle.layout.specs.Places.{First}
use Rattle.tables.specs.Telling.{telling}
use Rattle.access.specs.declared.asked.Offer.{Offer}
use Rattle.access.specs.declared.plan.MissPlan.{MissPlan}
use Rattle.access.specs.declared.plan.MissPlan.TheVariants.{Stays, Joins, Starts}

-- the place of the first entry for an address
abbrev pub entry_index : ℕ → List Entry → ℕ
entry_index a [] = 0
entry_index a (e ∷ es) = pick (entry_for a e) 0 (suc (entry_index a es))

abbrev pub tickets_at : ℕ → List Entry → ℕ
tickets_at e es = length (get_or es e no_entry).tickets

-- a ticket joins entry e, which has n, if one more fits
abbrev pub joining : Settings → ℕ → ℕ → Result MissPlan Refusal
joining S e n = pick (leb S.readers n) (Err EntryFull) (Ok (Joins e n))

-- a new entry behind m others, if one more fits
abbrev pub starting : Settings → ℕ → Result MissPlan Refusal
starting S m = pick (leb S.misses m) (Err MissTableFull) (Ok (Starts m))

abbrev pub miss_plan : Settings → Access → Spot → Tables → Result MissPlan Refusal
miss_plan S x p t =
    pick (ltb S.queue (length t.queue + places_needed x p)) (Err QueueFull)
    (pick (is_read x && is_merge p.answer) (joining S (entry_index (address_of x) t.misses) (tickets_at (entry_index (address_of x) t.misses) t.misses))
    (pick (is_read x && is_miss p.answer) (starting S (length t.misses)) (Ok Stays)))

-- the outcome of a plan
abbrev pub following : Settings → Access → Spot → Tables → Result MissPlan Refusal → Outcome Tables
following S x p t (Err n) = refused n
following S x p t (Ok c) = accept S x p t

-- the access x met the spot p of the tables t, which are in the slices L, as the decision d says
pub record Met (S : Settings) (L : Lent) (x : Access) (d : Decision) (t : Tables) (p : Spot) : Type 0 where
  pub is : Encodes S L t
  pub formed : well_formed x ≡ true
  pub probed : met_in S x t ≡ at p
  pub decided : place_is (ways_of S t.lines (address_of x)) (address_of x) (Ok d) ≡ at p
  pub numbered : d.line ≡ line_number S (address_of x) p.way
  pub way : d.way < S.ways
  pub below : d.line < lines_of S

-- some tables and spot are met
pub record Meets (S : Settings) (L : Lent) (x : Access) (d : Decision) : Type 0 where
  pub tables : Tables
  pub spot : Spot
  pub met : Met S L x d tables spot

-- the place of an offer is decided, and so many places of the queue and of the miss table are in use
pub record Placed (S : Settings) (place : Layout) (L : Lent) (o : Offer) : Type 0 where
  pub meets : Meets S L o.access o.decision
  pub queued : First L.marks place.kinds S.queue 0 o.queued
  pub missed : First L.marks place.counts S.misses 0 o.missed

-- ---- what is known of the miss table

-- the tables in the slices have an entry for the address
pub record Entered (S : Settings) (L : Lent) (a : ℕ) : Type 0 where
  pub tables : Tables
  pub is : Encodes S L tables
  pub entered : any (entry_for a) tables.misses ≡ true

pub record Joining (S : Settings) (L : Lent) (a : ℕ) (r : Result MissPlan Refusal) : Type 0 where
  pub on : (t : Tables) → Encodes S L t → any (entry_for a) t.misses ≡ true → r ≡ joining S (entry_index a t.misses) (tickets_at (entry_index a t.misses) t.misses)

pub record Planned (S : Settings) (L : Lent) (x : Access) (d : Decision) (r : Result MissPlan Refusal) : Type 0 where
  pub on : (t : Tables) (p : Spot) → Met S L x d t p → r ≡ miss_plan S x p t

-- ---- the act of an access that is not refused

-- the tables t, the spot p and the plan are those of the offer
pub record Acts (S : Settings) (L : Lent) (o : Offer) (plan : MissPlan) (t : Tables) (p : Spot) : Type 0 where
  pub met : Met S L o.access o.decision t p
  pub counted : o.queued ≡ length t.queue
  pub planned : Ok plan ≡ miss_plan S o.access p t

pub record MayAct (S : Settings) (L : Lent) (o : Offer) (plan : MissPlan) : Type 0 where
  pub tables : Tables
  pub spot : Spot
  pub acts : Acts S L o plan tables spot

pub record Acted (S : Settings) (L : Lent) (o : Offer) (plan : MissPlan) (r : Reply) (M : Lent) : Type 0 where
  pub on : (t : Tables) (p : Spot) → Acts S L o plan t p → Leaves (encoded S (accept S o.access p t)) L r M

-- what a call tells that is done, or refused
abbrev pub told_by : Result Reply Refusal → Reply
told_by (Ok r) = r
told_by (Err n) = telling (event.Refused n)

-- an access whose place is decided, done or refused
pub record Offered (S : Settings) (L : Lent) (x : Access) (d : Decision) (r : Result Reply Refusal) (M : Lent) : Type 0 where
  pub on : (t : Tables) (p : Spot) → Met S L x d t p → Leaves (encoded S (proceed S x t (at p))) L (told_by r) M

abbrev pub ticket_of : Access → ℕ
ticket_of (Read a m k) = k
ticket_of (Write a m k) = k
