-- What stands at a place of a log or a stream: a command, an event, or why there is neither.
use Rattle.model.specs.RecordsOf.{whole_record}
use Rattle.model.specs.declared.Body.{Body}
use Rattle.model.specs.declared.Stop.{Stop}
use Rattle.std.specs.Prelude.{ℕ, ◌+◌, ◌-◌, List, length, get_or, ltb, eqb, Option, Some, None, Result, Ok, Err}
use Rattle.model.specs.declared.Command.{Command}
use Rattle.model.specs.declared.Event.{Event}
use Rattle.words.specs.Words.{pick}
use Rattle.model.specs.Records.{length_of, no_kind, read_at, command_at, event_at}
use Rattle.records.specs.declared.Item.{Item}
use Rattle.records.specs.declared.Item.TheVariants as item

-- a whole record of kind k: its command, or its event, if it is either's
abbrev pub item_whole : ℕ → ℕ → Option Command → Option Event → Item
item_whole k next (Some c) e = item.Command c next
item_whole k next None (Some e) = item.Event e next
item_whole k next None None = item.Strange k

-- a record of kind k that reading stops at, with m bytes behind its kind
abbrev pub item_stopped : ℕ → ℕ → Item
item_stopped k m = pick (eqb (length_of k) no_kind) (item.Unknown k) (item.Cut k (length_of k) m)

abbrev pub item_by : List ℕ → ℕ → Result Body Stop → Item
item_by s at (Ok b) = item_whole b.kind b.next (command_at s at) (event_at s at)
item_by s at (Err r) = item_stopped (get_or s at 0) (length s - (at + 1))

unfoldable pub item_at : List ℕ → ℕ → Item
item_at s at = pick (ltb at (length s)) (item_by s at (read_at s at)) item.End
