-- L7 of a whole history: of every byte, and of the queue; calls of the code that each met its promise.
use Rattle.std.specs.Prelude.{ℕ, ◌≡◌, Bool, List, [], ◌∷◌, ◌++◌}
use Rattle.model.specs.Tables.{Tables}
use Rattle.model.specs.Lent.{Lent}
use Rattle.model.specs.Calls.{events_told, Leaves}
use Rattle.model.specs.History.{Call, make, Made, events_made}
use Rattle.model.specs.declared.Settings.{Settings}
use Rattle.model.specs.declared.Queued.{Queued}
use Rattle.model.specs.declared.Reply.{Reply}
use Rattle.billed.specs.Bytes.{dirty_byte}
use Rattle.billed.specs.Queue.{queued_by, sent_by}
use Rattle.billed.specs.Touches.{touches, L7}

-- the history ms left the tables u; b: which bytes were dirty before it, q: the queue before it
pub record Billed (b : ℕ → Bool) (q : List Queued) (ms : List Made) (u : Tables) : Type 0 where
  -- of any byte address
  pub bytes : (c : ℕ) → L7 (b c) (touches c ms) (dirty_byte c u)
  -- a queued write-back that an event tells is one that stands in the queue until it is sent, with this block and these masks, and
  -- nothing else stands there: what stood and what is told queued is what is told sent and what stands, first in first out
  pub queue : q ++ queued_by (events_made ms) ≡ sent_by (events_made ms) ++ u.queue

-- calls of the code: each told r and left the slices M, as its promise says
pub data Trace (S : Settings) : List Call → Lent → List Made → Lent → Type 0 where
  over : {L : Lent} → Trace S [] L [] L
  next : {k : Call} {ks : List Call} {L M N : Lent} {r : Reply} {ms : List Made} → Leaves (make S k L) L r M → Trace S ks M ms N
      → Trace S (k ∷ ks) L (record { call = k; events = events_told r } ∷ ms) N
