use Rattle.std.proofs.Common.{◌≡◌, ◌++◌, drop, map}
use Rattle.go_ast.specs.Views.{exprs_in}
use Rattle.go_scope.specs.Names.{in_exprs, used}
use Rattle.go_uses.proofs.expressions.in_exprs.Given as goal

abbrev pub invariant-loop-e : goal.invariant-loop-e
invariant-loop-e l = map used l.names.items ++ in_exprs (exprs_in (drop l.e-index l.es)) ≡ in_exprs (exprs_in l.es)
