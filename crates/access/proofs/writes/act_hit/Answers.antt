use Rattle.words.proofs.General.{ap, ◌∙◌}
use Rattle.model.proofs.Terms.{address_of, set_index}
use Rattle.tables.specs.Telling.{telling}
use Rattle.access.specs.Written.{trees_written}
use Rattle.access.proofs.writes.act_hit.Goals as goal

pub returns : goal.returns
returns c =
    let g = c.args.g in
    let o = c.args.o in record {
      value = c.blank.ensures ∙ ap telling c.answered.ensures;
      words_after = c.turn_tree.ensures ∙ ap (trees_written g.settings g.at (set_index g.settings (address_of o.access)) o.decision.way) c.touch.ensures;
    }
