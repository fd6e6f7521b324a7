-- What refers to what in a package: initializations, and functions behind them, each with the names that it has and those that it refers to.
use Rattle.std.specs.Prelude.{◌≡◌, ℕ, List, [], ◌∷◌, ◌++◌, map, Some}
use Rattle.std.specs.List.{Contains, filter_map, slice_get}
use Rattle.ws_reach.specs.Reach.{Edge, Reaches}
use Rattle.go_typed.specs.Trees.{Initialization, Package}

pub record Node : Type 0 where
  pub names : List (List ℕ)
  pub references : List (List ℕ)

-- a blank variable has no name
abbrev pub variables_node : Initialization → Node
variables_node i = record { names = filter_map (λ x. x) i.variables; references = i.references }

abbrev pub function_node : List ℕ × List (List ℕ) → Node
function_node u = record { names = u.0 ∷ []; references = u.1 }

abbrev pub nodes_of : Package → List Node
nodes_of p = map variables_node p.initializations ++ map function_node p.uses

-- the node at k refers to a name of the one at q
abbrev pub Refers : List Node → ℕ → ℕ → Type 0
Refers nodes k q =
    (from to : Node) × (x : List ℕ) × (slice_get nodes k ≡ Some from) × (slice_get nodes q ≡ Some to) × Contains from.references x × Contains to.names x

-- one edge or more lead from one to the other
abbrev pub IsAhead : List (List ℕ) → ℕ → ℕ → Type 0
IsAhead rows k q = (first : ℕ) × Edge rows k first × Reaches (Edge rows) first q
