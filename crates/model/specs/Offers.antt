-- The access that a command offers the cache, as the runner makes it of its record, and the command that offers an access.
use Rattle.std.specs.Prelude.{Option, Some, None}
use Rattle.model.specs.declared.Access.{Access}
use Rattle.model.specs.declared.Access.TheVariants as access
use Rattle.model.specs.declared.Command.{Command}
use Rattle.model.specs.declared.Command.TheVariants as command

abbrev pub offered : Command → Option Access
offered (command.Settings g) = None
offered (command.Read a k) = Some (access.Read a 0 k)
offered (command.Write a m) = Some (access.Write a m 0)
offered command.Send = None
offered (command.Fill a) = None
offered (command.Tick c) = None

abbrev pub command_for : Access → Command
command_for (access.Read a m k) = command.Read a k
command_for (access.Write a m k) = command.Write a m
