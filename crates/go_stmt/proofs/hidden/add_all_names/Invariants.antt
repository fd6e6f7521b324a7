use Rattle.std.proofs.Common.{◌≡◌, ◌++◌, drop, map}
use Rattle.go_ast.specs.Views.{exprs_in}
use Rattle.go_scope.specs.Names.{in_exprs, used}
use Rattle.go_stmt.proofs.hidden.add_all_names.Given as goal

abbrev pub invariant-loop-value : goal.invariant-loop-value
invariant-loop-value l = map used l.names.items ++ in_exprs (exprs_in (drop l.value-index l.values)) ≡ map used l.fn.names.items ++ in_exprs (exprs_in l.values)
