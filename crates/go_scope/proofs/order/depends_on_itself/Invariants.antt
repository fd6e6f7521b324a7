use Rattle.std.proofs.Common.{◌≡◌, ℕ, ◌<◌, Some}
use Rattle.std.specs.List.{slice_get}
use Rattle.ws_reach.specs.Reach.{Edge, rows_of}
use Rattle.go_scope.proofs.order.depends_on_itself.Given as goal

abbrev pub invariant-loop-user : goal.invariant-loop-user
invariant-loop-user l = (k user : ℕ) → k < l.user-index → slice_get l.user-items k ≡ Some user → Edge (rows_of l.rows) user l.declaration → ⊥
