use Rattle.std.proofs.Common.{◌≡◌, ◌++◌, drop}
use Rattle.std.specs.Option.{option_map}
use Rattle.go_ast.specs.Views.{exprs_in}
use Rattle.go_typed.specs.Views.{as_expr}
use Rattle.go_expr.specs.Verdicts.{both}
use Rattle.go_expr.specs.Views.{all_of}
use Rattle.go_stmt.specs.Views.{context_of, env_of}
use Rattle.go_stmt.specs.Statements.{lefts_at}
use Rattle.go_stmt.proofs.assignment.check_lefts.Given as goal

abbrev pub invariant-loop-e : goal.invariant-loop-e
invariant-loop-e l = record {
  faults : (lefts_at (context_of l.context) (exprs_in (drop l.e-index l.es)) (env_of l.env)).faults ≡ (lefts_at (context_of l.context) (exprs_in l.es) (env_of l.env)).faults;
  known : (lefts_at (context_of l.context) (exprs_in l.es) (env_of l.env)).known
      ≡ option_map (λ k. k.0 ++ k.1) (both (option_map (all_of (option_map as_expr)) l.all) (lefts_at (context_of l.context) (exprs_in (drop l.e-index l.es)) (env_of l.env)).known);
}
