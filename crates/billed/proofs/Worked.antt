-- What befalls a byte in short histories from fresh tables: one table, one statement. A row: the calls, a byte address, what befell it.
use Rattle.words.proofs.General.{ℕ, ◌≡◌, refl, false, List, [], ◌∷◌, map}
use Rattle.model.proofs.Terms.{writing, start, probe, rule_of, access, proceed, accept, send, fill, fill_line, tick, Call, sending, filling, ticking, step_by, history, tables_left}
use Rattle.model.proofs.Terms.{events_made, base, r, w}
use Rattle.billed.specs.Bytes.{byte_marked, marks_byte, dirty_in, dirty_byte, writes_byte, carries}
use Rattle.billed.specs.Queue.{entries_by, queued_by}
use Rattle.billed.specs.Touches.{covers, Touch, written, billed, touches_of, touches, owed}

pub record Row : Type 0 where
  pub calls : List Call
  pub byte : ℕ
  pub touched : List Touch

abbrev pub touch_row : List Call → ℕ → List Touch → Row
touch_row ks c ts = record { calls = ks; byte = c; touched = ts }

-- The bytes that a write marks; not the others of its sector, nor those of another sector. A line taken: its bytes are billed, and not
-- those of the line that takes it; they may be written again. A write in flight, with a fetch and a fill. A write that is refused:
-- its mask is 0, the set is busy.
abbrev pub touch_rows : List Row
touch_rows =
    touch_row (w 0 0xFF ∷ []) 7 (written ∷ [])
    ∷ touch_row (w 0 0xFF ∷ []) 8 []
    ∷ touch_row (w 32 2 ∷ []) 33 (written ∷ [])
    ∷ touch_row (w 32 2 ∷ []) 1 []
    ∷ touch_row (w 0 0xFF ∷ w 128 0xFF ∷ ticking 1 ∷ w 128 1 ∷ w 256 0xFF ∷ []) 3 (written ∷ billed ∷ [])
    ∷ touch_row (w 0 0xFF ∷ w 128 0xFF ∷ ticking 1 ∷ w 128 1 ∷ w 256 0xFF ∷ []) 259 (written ∷ [])
    ∷ touch_row (w 0 0xFF ∷ w 128 0xFF ∷ ticking 1 ∷ w 128 1 ∷ w 256 0xFF ∷ sending ∷ ticking 2 ∷ w 256 1 ∷ w 0 0xFF ∷ []) 3 (written ∷ billed ∷ written ∷ [])
    ∷ touch_row (w 0 0xF ∷ r 0 ∷ w 0 0xF0 ∷ sending ∷ filling 0 ∷ []) 4 (written ∷ [])
    ∷ touch_row (w 0 0 ∷ []) 0 []
    ∷ touch_row (r 0 ∷ r 128 ∷ w 256 0xFF ∷ []) 256 []
    ∷ []

pub worked : map (λ (x : Row). touches x.byte (history (step_by base) x.calls (start base))) touch_rows ≡ map (λ (x : Row). x.touched) touch_rows
unfolding probe rule_of access proceed accept send fill fill_line tick byte_marked writes_byte carries history covers touches_of touches
worked = refl

-- and it is dirty after if it is owed
pub worked_dirty : map (λ (x : Row). dirty_byte x.byte (tables_left (step_by base) x.calls (start base))) touch_rows ≡ map (λ (x : Row). owed false x.touched) touch_rows
unfolding probe rule_of access proceed accept send fill fill_line tick byte_marked marks_byte dirty_in tables_left owed
worked_dirty = refl

-- and a write-back that is told is the one that stands in the queue
abbrev taking : List Call
taking = w 0 0xFF ∷ w 128 0xFF ∷ ticking 1 ∷ w 128 1 ∷ w 256 0xFF ∷ []

pub worked_queue : (tables_left (step_by base) taking (start base)).queue ≡ queued_by (events_made (history (step_by base) taking (start base)))
unfolding probe rule_of access proceed accept tick history tables_left entries_by
worked_queue = refl

pub worked_entry : (tables_left (step_by base) taking (start base)).queue ≡ writing 0 (0xFF ∷ 0 ∷ 0 ∷ 0 ∷ []) ∷ []
unfolding probe rule_of access proceed accept tick tables_left
worked_entry = refl
