use Rattle.std.proofs.Common.{◌≡◌, ◌<◌, ℕ, List, Some, Bor, map}
use Rattle.std.specs.Prelude.{◌↔◌, string_bytes}
use Rattle.std.specs.List.{Contains, slice_get}
use Rattle.go_init.specs.Views.{bearers}
use Rattle.go_init.proofs.edges.row_of.Given as goal

abbrev pub invariant-loop-i : goal.invariant-loop-i
invariant-loop-i l = (k : ℕ) → Contains l.row.items k ↔ ((j : ℕ) × (x : Bor (List ℕ)) × (j < l.i) × (slice_get (map string_bytes l.references) j ≡ Some x.now) × Contains (bearers l.named x) k)
