-- The record reader: what a step hands back, and where the reader stands afterwards.
use Rattle.model.specs.declared.Body.{Body}
use Rattle.model.specs.declared.Stop.{Stop}
use Rattle.std.specs.Prelude.{◌≡◌, ℕ, ◌+◌, List, Result, Ok, Err}
use Rattle.std.specs.Borrow.{Bor}
use Rattle.model.specs.Records.{read_at, body_at, next_of}
use Rattle.reader.specs.declared.Reader.{Reader}
use Rattle.reader.specs.declared.Taken.{Taken}

-- the place behind the record at a place; where reading stops, that place
unfoldable pub behind : List ℕ → ℕ → ℕ
behind s at = next_of (read_at s at) at

-- where the body of the record at a place begins; 0 where reading stops
abbrev pub body_start : Result Body Stop → ℕ
body_start (Ok b) = b.start
body_start (Err r) = 0

-- b is the part of the caller's own stream s, at that place of it, that holds the body of the record at a place
pub record PartOf (s : Bor (List ℕ)) (at : ℕ) (b : Bor (List ℕ)) : Type 0 where
  pub bytes : b.now ≡ body_at s.now at
  pub place : b.ref_ptr ≡ (s.ref_ptr.0, body_start (read_at s.now at) + s.ref_ptr.1)

-- from p on, t is handed back, and q is left
pub record Takes (p : Reader) (t : Taken) (q : Reader) : Type 0 where
  pub found : t.found ≡ read_at p.stream.now p.at
  pub body : PartOf p.stream p.at t.body
  pub stream : q.stream ≡ p.stream
  pub stands : q.at ≡ behind p.stream.now p.at
