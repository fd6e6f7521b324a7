-- No two different texts of a list have one digest, and what is hashed for actions.
use Rattle.std.specs.Prelude.{◌≡◌, ℕ, List, ◌∷◌, ◌++◌, map}
use Rattle.std.specs.List.{Contains, flat_map}
use Rattle.sha2.specs.Sha256.{sha256}
use Rattle.ws_action.specs.Actions.{Named, Action, action_text, IsSized}

-- no two different texts of T have one digest
abbrev pub NoClash : List (List ℕ) → Type 0
NoClash T = (s t : List ℕ) → Contains T s → Contains T t → sha256 s ≡ sha256 t → s ≡ t

-- the texts of files or imports
abbrev pub named_texts : List Named → List (List ℕ)
named_texts ns = map (λ n. n.1) ns

-- what is hashed for an action: its text, and the texts of its files and of its imports' summaries
abbrev pub hashed : Action → List (List ℕ)
hashed a = action_text a ∷ named_texts a.files ++ named_texts a.imports

-- what is hashed for the actions
abbrev pub hashed_actions : List Action → List (List ℕ)
hashed_actions actions = flat_map hashed actions

abbrev pub AllSized : List Action → Type 0
AllSized E = (a : Action) → Contains E a → IsSized a

-- all of the second list is in the first
abbrev pub Includes : {X : Type 0} → List X → List X → Type 0
Includes {X} T S = (s : X) → Contains S s → Contains T s
