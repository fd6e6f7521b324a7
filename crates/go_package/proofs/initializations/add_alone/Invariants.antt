use Rattle.std.proofs.Common.{◌≡◌, ◌++◌, ◌≤◌, length, drop, map}
use Rattle.go_ast.specs.Views.{exprs_in as exprs_trees, var_of}
use Rattle.go_typed.specs.Views.{as_exprs, initialization_of}
use Rattle.go_package.specs.Views.{facts_of}
use Rattle.go_package.specs.Typed.{each_alone}
use Rattle.go_package.proofs.initializations.add_alone.Given as goal

abbrev pub invariant-loop-e : goal.invariant-loop-e
invariant-loop-e l = record {
  within : l.number ≤ length l.variables;
  same : map initialization_of l.found.items ++ each_alone (facts_of l.facts) (map (λ n. n.now) l.names) l.file (drop l.number l.variables) (exprs_trees (drop l.number l.values)) (as_exprs l.e-iterator.rest.items)
      ≡ map initialization_of l.fn.found.items ++ each_alone (facts_of l.facts) (map (λ n. n.now) l.names) l.file (var_of l.spec).names (var_of l.spec).values (as_exprs l.fn.typed.items);
}
