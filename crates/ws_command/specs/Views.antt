-- A command without where its words lie.
use Rattle.std.specs.Prelude.{map}
use Rattle.ws_command.specs.Commands.{Command, Nothing, Bad, Create, Write, Remove, Apply, Merge, Settle, Build, Run, Ids, Show, Use}
use Rattle.ws_command.specs.declared.commands.Asked.{Asked}
use Rattle.ws_command.specs.declared.commands.Asked.TheVariants as asked

-- the command that the words of a line spell
abbrev pub command_view : Asked → Command
command_view asked.Nothing = Nothing
command_view asked.Bad = Bad
command_view (asked.Create name) = Create name.now
command_view (asked.Write name path lines) = Write name.now path.now lines
command_view (asked.Remove name path) = Remove name.now path.now
command_view (asked.Apply name path counter number lines) = Apply name.now path.now counter number lines
command_view asked.Settle = Settle
command_view (asked.Show name) = Show name.now
command_view (asked.Merge name other) = Merge name.now other.now
command_view (asked.Build targets) = Build (map (λ target. (target.0.now, target.1.now)) targets.items)
command_view (asked.Run name directory ticks) = Run name.now directory.now ticks
command_view (asked.Ids name directory) = Ids name.now directory.now
command_view (asked.Use edition) = Use edition
