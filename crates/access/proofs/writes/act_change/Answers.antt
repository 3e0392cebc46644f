use Rattle.words.proofs.General.{arith, ap, ◌∙◌}
use Rattle.encoding.proofs.Bridge.{is_fit}
use Rattle.tables.specs.Telling.{telling}
use Rattle.access.proofs.Changes.{touch_room, change_room, set_room, met-left}
use Rattle.access.proofs.Hits.{change_offered}
use Rattle.access.proofs.writes.act_change.Goals as goal

pub write_sector-requires : goal.write_sector-requires
write_sector-requires c = (change_room _ _ _ _ _ c.requires.0.met c.args.g.laid, c.requires.1)

pub touch-requires : goal.touch-requires
touch-requires c = touch_room _ _ _ _ _ c.requires.0.met c.args.g.laid c.write_sector.auto.words

pub turn_tree-requires : goal.turn_tree-requires
turn_tree-requires c =
    (set_room _ _ _ _ _ c.requires.0.met c.args.g.laid (c.touch.auto.words ∙ c.write_sector.auto.words)).1

pub answered-requires : goal.answered-requires
answered-requires c = let m = c.requires.0.met in let f = is_fit _ _ _ m.is in omega (arith, m.below)

pub returns : goal.returns
returns c =
    record {
      on = λ t p m.
          change_offered _ _ _ t p m c.args.g.laid c.requires.2 c.requires.1 (c.blank.ensures ∙ ap telling c.answered.ensures)
          (met-left _ _ _ t p m c.args.g.laid c.requires.2 c.write_sector.ensures c.touch.ensures)
          c.turn_tree.ensures;
    }
