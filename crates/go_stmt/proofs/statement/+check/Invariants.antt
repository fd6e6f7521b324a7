use Rattle.std.proofs.Common.{◌≡◌, ◌++◌, false, drop}
use Rattle.std.specs.Option.{option_map}
use Rattle.go_types.specs.Views.{go_type}
use Rattle.go_expr.specs.Verdicts.{both}
use Rattle.go_stmt.specs.Views.{context_of, env_of, typed_in, trees_in, clauses_trees, clauses_of}
use Rattle.go_stmt.specs.Statements.{block_context, list_at, clauses_at}
use Rattle.go_stmt.proofs.Blocks.{turn}
use Rattle.go_stmt.proofs.Leading.{Leads}
use Rattle.go_stmt.proofs.statement.+check.Given as goal

-- what is left has the faults that all have, and gives the rest of what is known
abbrev pub invariant-check_list-loop-i : goal.invariant-check_list-loop-i
invariant-check_list-loop-i l =
    Leads (list_at (block_context (context_of l.context)) (trees_in l.statements) (env_of l.fn.env)) (option_map typed_in l.known)
    (list_at (turn (context_of l.context) l.statements l.i) (trees_in (drop l.i l.statements)) (env_of l.env))

-- the same of clauses, which stand behind a default or not
abbrev pub invariant-check_clauses-loop-i : goal.invariant-check_clauses-loop-i
invariant-check_clauses-loop-i l = record {
  faults : (clauses_at (context_of l.context) (option_map go_type l.tag) l.again (clauses_trees (drop l.i l.clauses)) (env_of l.env)).faults
      ≡ (clauses_at (context_of l.context) (option_map go_type l.tag) false (clauses_trees l.clauses) (env_of l.fn.env)).faults;
  known : (clauses_at (context_of l.context) (option_map go_type l.tag) false (clauses_trees l.clauses) (env_of l.fn.env)).known
      ≡ option_map (λ k. k.0 ++ k.1) (both (option_map clauses_of l.known)
      (clauses_at (context_of l.context) (option_map go_type l.tag) l.again (clauses_trees (drop l.i l.clauses)) (env_of l.env)).known);
  after : (clauses_at (context_of l.context) (option_map go_type l.tag) l.again (clauses_trees (drop l.i l.clauses)) (env_of l.env)).after
      ≡ (clauses_at (context_of l.context) (option_map go_type l.tag) false (clauses_trees l.clauses) (env_of l.fn.env)).after;
}
