-- What a stream ends in, of the bytes from its last record on.
use Rattle.std.specs.Prelude.{Result, Ok, Err, ℕ, List}
use Rattle.words.specs.Words.{pick}
use Rattle.model.specs.Records.{is_command}
use Rattle.model.specs.declared.Access.TheVariants as access
use Rattle.model.specs.declared.Command.{Command}
use Rattle.model.specs.declared.Command.TheVariants as cmd
use Rattle.model.specs.declared.Stop.{Stop}
use Rattle.model.specs.declared.Stop.TheVariants.{OutOfPlace, UnknownKind, CutShort}
use Rattle.records.specs.declared.Item.{Item}
use Rattle.records.specs.declared.Item.TheVariants as item
use Rattle.records.specs.Items.{item_at}
use Rattle.wait.specs.declared.last.Last.{Last}
use Rattle.wait.specs.declared.last.Last.TheVariants.{Offer, Other, Nothing}

-- an access as the runner makes it of its record
abbrev pub last_command : Command → Result Last Stop
last_command (cmd.Read a k) = Ok (Offer (access.Read a 0 k))
last_command (cmd.Write a m) = Ok (Offer (access.Write a m 0))
last_command cmd.Send = Ok (Other cmd.Send)
last_command (cmd.Fill a) = Ok (Other (cmd.Fill a))
last_command (cmd.Tick c) = Ok (Other (cmd.Tick c))
last_command (cmd.Settings g) = Err OutOfPlace

-- "To the runner event kinds are unknown kinds", cut short or not
abbrev pub last_cut : ℕ → Result Last Stop
last_cut k = pick (is_command k) (Err CutShort) (Err UnknownKind)

abbrev pub last_item : Item → Result Last Stop
last_item (item.Command c next) = last_command c
last_item (item.Event e next) = Err UnknownKind
last_item item.End = Ok Nothing
last_item (item.Cut k wants left) = last_cut k
last_item (item.Unknown k) = Err UnknownKind
last_item (item.Strange k) = Err UnknownKind

abbrev pub last_of : List ℕ → Result Last Stop
last_of s = last_item (item_at s 0)
