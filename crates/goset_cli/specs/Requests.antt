-- The first command of a script.
use Rattle.std.specs.Prelude.{◌≡◌, ◌<◌, ℕ, List, ◌∷◌, ◌++◌, drop, length, Option}
use Rattle.ws_command.specs.Lines.{lines_of}
use Rattle.ws_command.specs.Commands.{Command, command_of, text_lines, text_of}
use Rattle.ws_command.specs.Pieces.{closed}

-- bytes at the front of a script are whole lines, and these are left behind them
abbrev pub AreLines : List ℕ → List ℕ → List ℕ → Type 0
AreLines script bytes rest = (script ≡ bytes ++ rest) × (0 < length rest → closed bytes ≡ bytes)

-- a script's first line asks for this command, on this text; these are the bytes of both, and this is left behind them
pub record IsFirst (script : List ℕ) (command : Command) (text : Option (List ℕ)) (bytes rest : List ℕ) : Type 0 where
  pub line : List ℕ
  pub lines : List (List ℕ)
  pub script_is : lines_of script ≡ line ∷ lines
  pub command_is : command ≡ command_of line
  pub text_is : text ≡ text_of (text_lines command) lines
  pub rest_is : lines_of rest ≡ drop (text_lines command) lines
  pub bytes_are : AreLines script bytes rest
