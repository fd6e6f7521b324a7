-- What a session writes for a script.
use Rattle.std.specs.Prelude.{◌≡◌, ℕ, zero, suc, ◌⊎◌, List, [], ◌∷◌, ◌++◌}
use Rattle.go_text.specs.declared.edition.Edition.{Edition}
use Rattle.ws_action.specs.Clash.{NoClash}
use Rattle.ws_command.specs.Lines.{lines_of}
use Rattle.ws_command.specs.Commands.{command_of, text_of, text_lines}
use Rattle.ws_session.specs.World.{World, empty_world, hashed_texts, After, Prints}

-- some bytes at the front of a text
abbrev pub IsBeginning : List ℕ → List ℕ → Type 0
IsBeginning front text = (rest : List ℕ) × (text ≡ front ++ rest)

-- What is said for these lines, of which the first taken are the text of a command before them: what the first command
-- prints, and then what is said in the world after it.
unfoldable pub TextFrom : ℕ → List (List ℕ) → World → List ℕ → Type 0
TextFrom taken [] world told = told ≡ []
TextFrom (suc taken) (line ∷ lines) world told = TextFrom taken lines world told
TextFrom zero (line ∷ lines) world told =
    let command = command_of line in let text = text_of (text_lines command) lines in
    (now : List ℕ) × (later : List ℕ) × (next : World) × Prints command text world now × After command text world next
    × TextFrom (text_lines command) lines next later × (told ≡ now ++ later)

-- the worlds that are reached from here, this one too
unfoldable pub ReachedFrom : ℕ → List (List ℕ) → World → World → Type 0
ReachedFrom taken [] world other = other ≡ world
ReachedFrom (suc taken) (line ∷ lines) world other = ReachedFrom taken lines world other
ReachedFrom zero (line ∷ lines) world other =
    let command = command_of line in let text = text_of (text_lines command) lines in
    (other ≡ world) ⊎ ((next : World) × After command text world next × ReachedFrom (text_lines command) lines next other)

-- all that is written for a script, from no replica on
abbrev pub SessionText : Edition → List ℕ → List ℕ → Type 0
SessionText edition script told = TextFrom 0 (lines_of script) (empty_world edition) told

-- a beginning of it
abbrev pub Begun : Edition → List ℕ → List ℕ → Type 0
Begun edition script front = (text : List ℕ) × SessionText edition script text × IsBeginning front text

-- No two different texts that the script's session hashes, in any world that it reaches, have one digest.
abbrev pub IsClear : Edition → List ℕ → Type 0
IsClear edition script = (world : World) → ReachedFrom 0 (lines_of script) (empty_world edition) world → NoClash (hashed_texts world)
