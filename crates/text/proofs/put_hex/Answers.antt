-- `0x` over two places, then the digits.
use Rattle.words.proofs.General.{arith, sym, ◌∙◌, leb-true, leb-false}
use Rattle.text.proofs.Puts.{hex_none, hex_all}
use Rattle.text.proofs.put_hex.Goals.{then-not-has_room-via-then-not-has_room, then-not-has_room-via-else-not-has_room+then-not-has_room-2}
use Rattle.text.proofs.put_hex.Goals as goal

pub returns-then-not-has_room : goal.returns-then-not-has_room
returns-then-not-has_room c =
    elim c.then-not-has_room.branch [
      | then-not-has_room-via-then-not-has_room w ↦
          let h = leb-false _ _ (sym c.has_room.ensures ∙ w.if-not-has_room.true) in
          hex_none _ _ _ c.count_digits-k.ensures (omega arith)
      | then-not-has_room-via-else-not-has_room+then-not-has_room-2 w ↦
          let h = leb-false _ _ (sym w.has_room-else-not-has_room.ensures ∙ w.if-not-has_room-2.true) in
          hex_none _ _ _ c.count_digits-k.ensures (omega arith)
    ]

pub returns : goal.returns
returns c =
    hex_all _ _ _ c.count_digits-k.ensures (leb-true _ _ (sym c.has_room-else-not-has_room.ensures ∙ c.if-not-has_room-2.false)) c.copy.ensures c.spell.ensures
