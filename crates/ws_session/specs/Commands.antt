-- The commands of a script, and which of them look for actions.
use Rattle.std.specs.Prelude.{ℕ, zero, suc, Bool, true, false, List, [], ◌∷◌}
use Rattle.ws_command.specs.Commands.{Command, Build, Run, Ids, command_of, text_lines}
use Rattle.ws_command.specs.Lines.{lines_of}

-- those of some lines, of which the first taken are the text of a command before them
abbrev pub commands_from : ℕ → List (List ℕ) → List Command
commands_from taken [] = []
commands_from (suc taken) (line ∷ lines) = commands_from taken lines
commands_from zero (line ∷ lines) = command_of line ∷ commands_from (text_lines (command_of line)) lines

abbrev pub commands_of : List ℕ → List Command
commands_of script = commands_from 0 (lines_of script)

-- the command is no build, no run and none that lists ids: no text is hashed for it
abbrev pub hashes_nothing : Command → Bool
hashes_nothing (Build targets) = false
hashes_nothing (Run name directory ticks) = false
hashes_nothing (Ids name directory) = false
hashes_nothing _ = true
