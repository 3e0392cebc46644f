-- A record that is shown is gone past.
use Rattle.std.proofs.Common.{sym, ◌∙◌}
use Rattle.records.proofs.Items.{item_past}
use Rattle.show.proofs.Page.show_one.Goals as goal

pub returns-in-Command : goal.returns-in-Command
returns-in-Command c = rw (sym c.item_at.ensures ∙ c.in-Command.is) at (item_past c.args.s.now c.args.at)

pub returns-in-Event : goal.returns-in-Event
returns-in-Event c = rw (sym c.item_at.ensures ∙ c.in-Event.is) at (item_past c.args.s.now c.args.at)
