use Rattle.std.proofs.Common.{◌≡◌, ◌++◌, drop, map}
use Rattle.std.specs.Option.{option_map}
use Rattle.go_ast.specs.Views.{parameter_of}
use Rattle.go_types.specs.Views.{go_type}
use Rattle.go_expr.specs.Views.{all_of}
use Rattle.go_expr.specs.Verdicts.{both}
use Rattle.go_stmt.specs.Functions.{parameters_at}
use Rattle.go_stmt.specs.Views.{context_of, env_of}
use Rattle.go_stmt.proofs.function.check_parameters.Given as goal

abbrev pub invariant-loop-parameter : goal.invariant-loop-parameter
invariant-loop-parameter l = record {
  faults : (parameters_at (context_of l.context) (map parameter_of (drop l.parameter-index l.parameters)) (env_of l.env)).faults
      ≡ (parameters_at (context_of l.context) (map parameter_of l.parameters) (env_of l.fn.env)).faults;
  known : (parameters_at (context_of l.context) (map parameter_of l.parameters) (env_of l.fn.env)).known
      ≡ option_map (λ k. k.0 ++ k.1) (both (option_map (all_of go_type) l.known)
      (parameters_at (context_of l.context) (map parameter_of (drop l.parameter-index l.parameters)) (env_of l.env)).known);
  after : (parameters_at (context_of l.context) (map parameter_of (drop l.parameter-index l.parameters)) (env_of l.env)).after
      ≡ (parameters_at (context_of l.context) (map parameter_of l.parameters) (env_of l.fn.env)).after;
}
