-- What a script leaves, how another goes on from it, and what may be kept of both.
use Rattle.std.specs.Prelude.{◌≡◌, ℕ, zero, suc, ◌⊎◌, Bool, true, false, List, [], ◌∷◌, ◌++◌, ◌&&◌, not, nat_eq, codes, if◌then◌else◌}
use Rattle.std.specs.List.{starts_with}
use Rattle.go_text.specs.declared.edition.Edition.TheVariants.{One}
use Rattle.ws_action.specs.Clash.{NoClash, Includes}
use Rattle.ws_command.specs.Lines.{lines_of}
use Rattle.ws_command.specs.Commands.{Command, Create, Write, Remove, Apply, Merge, Settle, Build, Use, command_of, text_of, text_lines}
use Rattle.ws_command.specs.Pieces.{closed}
use Rattle.ws_session.specs.World.{World, empty_world, hashed_texts, After}
use Rattle.ws_session.specs.Text.{SessionText, TextFrom, ReachedFrom}

-- ---- what a script leaves

-- The world that is left behind these lines, of which the first taken are the text of a command before them.
unfoldable pub EndsFrom : ℕ → List (List ℕ) → World → World → Type 0
EndsFrom taken [] world last = last ≡ world
EndsFrom (suc taken) (line ∷ lines) world last = EndsFrom taken lines world last
EndsFrom zero (line ∷ lines) world last =
    let command = command_of line in let text = text_of (text_lines command) lines in
    (next : World) × After command text world next × EndsFrom (text_lines command) lines next last

-- the world that a script leaves that goes on from another
abbrev pub LeavesFrom : World → List ℕ → World → Type 0
LeavesFrom world script last = EndsFrom 0 (lines_of script) world last

-- the world that a kept script leaves: it begins in the first edition, with no replica
abbrev pub Leaves : List ℕ → World → Type 0
Leaves kept world = LeavesFrom (empty_world One) kept world

-- what is written for a script that goes on from a world
abbrev pub WritesFrom : World → List ℕ → List ℕ → Type 0
WritesFrom world script text = TextFrom 0 (lines_of script) world text

-- What is written for a script behind a kept one. It is read by itself, and goes on from the world that the kept one leaves.
abbrev pub Continues : List ℕ → List ℕ → List ℕ → Type 0
Continues kept script text = (world : World) × Leaves kept world × WritesFrom world script text

-- a text is what is written for a kept script, and behind it for another
abbrev pub WritesBoth : List ℕ → List ℕ → List ℕ → Type 0
WritesBoth kept script told =
    (before : List ℕ) × (text : List ℕ) × SessionText One kept before × Continues kept script text × (told ≡ before ++ text)

-- ---- complete scripts

-- behind these lines, of which the first taken are the text of a command before them, no command wants more lines
abbrev pub IsCompleteFrom : ℕ → List (List ℕ) → Type 0
IsCompleteFrom zero [] = Unit {0}
IsCompleteFrom (suc taken) [] = ⊥
IsCompleteFrom (suc taken) (line ∷ lines) = IsCompleteFrom taken lines
IsCompleteFrom zero (line ∷ lines) = IsCompleteFrom (text_lines (command_of line)) lines

-- A script is complete that is empty or ends with a newline, and in which each command has all lines of its text.
pub record IsComplete (script : List ℕ) : Type 0 where
  pub ends : (script ≡ []) ⊎ ((front : List ℕ) × (script ≡ front ++ 10 ∷ []))
  pub texts : IsCompleteFrom 0 (lines_of script)

-- ---- the premise on digests

-- no two different texts that are hashed in a world behind this one have one digest
abbrev pub IsClearFrom : World → List ℕ → Type 0
IsClearFrom world script = (other : World) → ReachedFrom 0 (lines_of script) world other → NoClash (hashed_texts other)

-- neither in the kept script's own worlds
pub record IsClearBehind (kept script : List ℕ) : Type 0 where
  pub before : IsClearFrom (empty_world One) kept
  pub behind : (world : World) → Leaves kept world → IsClearFrom world script

-- ---- what may be kept

-- Two worlds that no command tells apart: the first is the second, but that less was looked for in it.
pub record IsLike (lean world : World) : Type 0 where
  pub edition : lean.edition ≡ world.edition
  pub replicas : lean.replicas ≡ world.replicas
  pub sought : Includes world.sought lean.sought

-- from a world on a script leaves one like another
abbrev pub LeavesLike : World → List ℕ → World → Type 0
LeavesLike world script last = (left : World) × LeavesFrom world script left × IsLike left last

-- a kept script restores a world: it is complete, and leaves one like it
pub record Restores (kept : List ℕ) (world : World) : Type 0 where
  pub complete : IsComplete kept
  pub left : World
  pub leaves : Leaves kept left
  pub like : IsLike left world

-- what is kept behind a run: a script that restores the world that the run leaves
abbrev pub RestoresBehind : List ℕ → List ℕ → List ℕ → Type 0
RestoresBehind kept script new = (world : World) × (last : World) × Leaves kept world × LeavesFrom world script last × Restores new last

-- A script does what led from one world to another: it is complete, and leads from each world like the first to one like the second.
pub record ReplaysFrom (script : List ℕ) (world last : World) : Type 0 where
  pub complete : IsComplete script
  pub leads : (lean : World) → IsLike lean world → LeavesLike lean script last

-- the command may change the edition or what replicas hold
abbrev pub is_change : Command → Bool
is_change command = elim command [
  | Create name ↦ true
  | Write name path lines ↦ true
  | Remove name path ↦ true
  | Apply name path counter number lines ↦ true
  | Merge name other ↦ true
  | Settle ↦ true
  | Build targets ↦ true
  | Use edition ↦ true
  | _ ↦ false
]

abbrev pub is_refusal : List ℕ → Bool
is_refusal told = starts_with nat_eq told (codes "refused ")

-- what is kept of a command that is on these lines and prints this: nothing, if it is refused or changes nothing
abbrev pub kept_lines : Command → List ℕ → List ℕ → List ℕ
kept_lines command told lines = if is_change command && not (is_refusal told) then closed lines else []
