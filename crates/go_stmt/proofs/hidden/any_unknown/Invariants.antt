use Rattle.std.proofs.Common.{◌≡◌, drop, map}
use Rattle.std.specs.List.{list_any}
use Rattle.go_scope.specs.Names.{used}
use Rattle.go_expr.specs.Views.{scope_of}
use Rattle.go_stmt.specs.Statements.{is_unknown}
use Rattle.go_stmt.proofs.hidden.any_unknown.Given as goal

abbrev pub invariant-loop-name : goal.invariant-loop-name
invariant-loop-name l = list_any (is_unknown (scope_of l.scope)) (map used (drop l.name-index l.names)) ≡ list_any (is_unknown (scope_of l.scope)) (map used l.names)
