use Rattle.std.proofs.Common.{◌≡◌, ◌<◌, ℕ, List, Some, Bor, map}
use Rattle.std.specs.Prelude.{◌↔◌}
use Rattle.std.specs.List.{Contains, slice_get}
use Rattle.go_init.specs.Nodes.{Node}
use Rattle.go_init.specs.Views.{bearers, node_of}
use Rattle.go_init.proofs.edges.by_name.Given as goal

abbrev pub invariant-loop-number : goal.invariant-loop-number
invariant-loop-number l = (x : Bor (List ℕ)) (k : ℕ) →
    Contains (bearers l.named x) k ↔ ((k < l.number) × ((to : Node) × (slice_get (map node_of l.nodes) k ≡ Some to) × Contains to.names x.now))
