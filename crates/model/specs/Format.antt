-- What a format fixes: its kinds with the lengths of their bodies, which of them are settings, reads and released readers, the width of a
-- ticket, the rooms. "Records" and the runner are defined over a format (RecordsOf, RunnerOf); Records and Runner have them at `current`.
use Rattle.std.specs.Prelude.{ℕ, ◌+◌, ◌*◌, List, [], ◌∷◌}
use Rattle.model.specs.Kinds as kinds

pub data Format : Type 0 where
  -- the one that the library reads and writes
  current : Format

-- ---- "Body length is fixed by kind through this table"

pub record Kind : Type 0 where
  pub kind : ℕ
  pub body : ℕ

abbrev pub command_kinds : Format → List Kind
command_kinds current =
    record { kind = kinds.settings; body = 7 }
    ∷ record { kind = kinds.ruled; body = 8 }
    ∷ record { kind = kinds.read; body = 12 }
    ∷ record { kind = kinds.write; body = 12 }
    ∷ record { kind = kinds.send; body = 0 }
    ∷ record { kind = kinds.fill; body = 8 }
    ∷ record { kind = kinds.tick; body = 4 }
    ∷ []

abbrev pub event_kinds : Format → List Kind
event_kinds current =
    record { kind = kinds.answer; body = 3 }
    ∷ record { kind = kinds.refused; body = 1 }
    ∷ record { kind = kinds.read_queued; body = 8 }
    ∷ record { kind = kinds.write_back_queued; body = 24 }
    ∷ record { kind = kinds.released; body = 4 }
    ∷ record { kind = kinds.read_sent; body = 8 }
    ∷ record { kind = kinds.write_back_sent; body = 24 }
    ∷ record { kind = kinds.filled; body = 8 }
    ∷ record { kind = kinds.ticked; body = 0 }
    ∷ []

-- the kinds of settings records
abbrev pub settings_kinds : Format → List ℕ
settings_kinds current = kinds.settings ∷ kinds.ruled ∷ []

-- ---- tickets: the kind of a read, the kind of a released reader, and how many bytes a ticket is in both

abbrev pub read_kind : Format → ℕ
read_kind current = kinds.read

abbrev pub released_kind : Format → ℕ
released_kind current = kinds.released

abbrev pub ticket_bytes : Format → ℕ
ticket_bytes current = 4

-- ---- rooms

-- "fewer than 64 bytes of event room"
abbrev pub event_room : Format → ℕ
event_room current = 64

-- what a wait asks: its 128 rounds at the most fit, each with a send and a fill (`settle_bytes`)
abbrev pub wait_room : Format → ℕ
wait_room current = 9600

-- the most that a call writes: a send a write-back sent; a fill a filled and eight released; an access an answer, a read queued and a write-back queued
abbrev pub send_bytes : ℕ
send_bytes = 25

abbrev pub fill_bytes : Format → ℕ
fill_bytes F = 9 + 8 * (1 + ticket_bytes F)

abbrev pub access_bytes : ℕ
access_bytes = 4 + 9 + 25

-- a round's send and fill, and the whole round
abbrev pub settle_bytes : Format → ℕ
settle_bytes F = send_bytes + fill_bytes F

abbrev pub round_bytes : Format → ℕ
round_bytes F = settle_bytes F + access_bytes
