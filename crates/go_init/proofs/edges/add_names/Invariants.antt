use Rattle.std.proofs.Common.{◌≡◌, ◌<◌, ◌⊎◌, ℕ, List, Some, Bor}
use Rattle.std.specs.Prelude.{◌↔◌}
use Rattle.std.specs.List.{Contains, slice_get}
use Rattle.go_init.specs.Views.{bearers}
use Rattle.go_init.proofs.edges.add_names.Given as goal

abbrev pub invariant-loop-i : goal.invariant-loop-i
invariant-loop-i l = (x : Bor (List ℕ)) (k : ℕ) →
    Contains (bearers l.named x) k ↔ (Contains (bearers l.fn.named x) k ⊎ (((j : ℕ) × (n : Bor (List ℕ)) × (j < l.i) × (slice_get l.names j ≡ Some n) × (x.now ≡ n.now)) × (k ≡ l.number)))
