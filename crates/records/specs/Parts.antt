-- The events of a call's value behind its first, part by part: the entries queued, the tickets released. Settings by their numbers. A part
-- of a stream, and bytes of one.
use Rattle.std.specs.Prelude.{◌≡◌, ℕ, zero, suc, ◌+◌, List, [], ◌∷◌, map, get_or, take, drop, Option}
use Rattle.std.specs.Borrow.{Bor}
use Rattle.model.specs.Steps.{queued_event}
use Rattle.model.specs.declared.Queued.{Queued}
use Rattle.model.specs.declared.Given.{Given}
use Rattle.model.specs.declared.Event.{Event}
use Rattle.model.specs.declared.Event.TheVariants.{Released}

abbrev pub queued_told : ℕ → List Queued → List Event
queued_told count queued = map queued_event (take count queued)

abbrev pub tickets_told : ℕ → List ℕ → List Event
tickets_told count tickets = map Released (take count tickets)

abbrev pub given : ℕ → ℕ → ℕ → ℕ → ℕ → ℕ → Option ℕ → Given
given s w p m r q u = record { sets = s; ways = w; dirty = p; misses = m; readers = r; queue = q; rule = u }

-- b is the part of the caller's own stream s that holds the n bytes from `start` on
pub record PartAt (s : Bor (List ℕ)) (start n : ℕ) (b : Bor (List ℕ)) : Type 0 where
  pub bytes : b.now ≡ take n (drop start s.now)
  pub place : b.ref_ptr ≡ (s.ref_ptr.0, start + s.ref_ptr.1)

-- the n bytes of s from index at; 0 for those past the end
abbrev pub bytes_at : List ℕ → ℕ → ℕ → List ℕ
bytes_at s at zero = []
bytes_at s at (suc n) = get_or s at 0 ∷ bytes_at s (suc at) n
