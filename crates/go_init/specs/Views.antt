-- How the code's nodes stand for those of the definitions, what an error says, and what a map has for a name.
use Rattle.std.specs.Prelude.{ℕ, List, [], map, Option, Some, None, ⊤, string_bytes}
use Rattle.std.specs.Borrow.{Bor}
use Rattle.std.specs.Global.{Vec}
use Rattle.std.specs.BTreeMap.{BTreeMap, get}
use Rattle.std.specs.Cmp.Lexicographic.{slice_cmp}
use Rattle.std.specs.Ordering.{nat_cmp}
use Rattle.go_typed.specs.Trees.{Package}
use Rattle.go_init.specs.Nodes as nodes
use Rattle.go_init.specs.Variables.{IsCycleAt}
use Rattle.go_init.specs.declared.error.InitError.{InitError}
use Rattle.go_init.specs.declared.error.InitError.TheVariants.{Cycle, Memory}
use Rattle.go_init.specs.declared.nodes.Node.{Node}

abbrev pub node_of : Node → nodes.Node
node_of n = record { names = map (λ x. x.now) n.names.items; references = map string_bytes n.references.now }

-- an error says so of a package: something is left over, the first of it there; or memory ran out
abbrev pub IsInitError : Package → InitError → Type 0
IsInitError p (Cycle file place) = IsCycleAt p (string_bytes file) place
IsInitError p Memory = ⊤

-- the numbers under a name
abbrev pub listed_numbers : Option (Vec ℕ) → List ℕ
listed_numbers o = elim o [ None ↦ [] | Some v ↦ v.items ]

abbrev pub bearers : BTreeMap (Bor (List ℕ)) (Vec ℕ) → Bor (List ℕ) → List ℕ
bearers m x = listed_numbers (get (λ a b. slice_cmp nat_cmp a.now b.now) m x)
