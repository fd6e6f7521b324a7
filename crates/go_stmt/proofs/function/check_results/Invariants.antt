use Rattle.std.proofs.Common.{◌≡◌, ◌++◌, drop, map}
use Rattle.std.specs.List.{flat_map}
use Rattle.std.specs.Option.{option_map}
use Rattle.go_ast.specs.Views.{type_of as type_tree}
use Rattle.go_types.specs.Views.{go_type}
use Rattle.go_expr.specs.Rules.{fine}
use Rattle.go_expr.specs.Views.{scope_of}
use Rattle.go_expr.specs.Verdicts.{type_verdict, type_faults}
use Rattle.go_stmt.proofs.function.check_results.Given as goal

abbrev pub invariant-loop-of : goal.invariant-loop-of
invariant-loop-of l = record {
  faults : flat_map (type_faults (scope_of l.scope)) (map type_tree (drop l.of-index l.results)) ≡ flat_map (type_faults (scope_of l.scope)) (map type_tree l.results);
  types : map (option_map go_type) l.all.items ++ map (λ t. fine (type_verdict (scope_of l.scope) t)) (map type_tree (drop l.of-index l.results))
      ≡ map (λ t. fine (type_verdict (scope_of l.scope) t)) (map type_tree l.results);
}
