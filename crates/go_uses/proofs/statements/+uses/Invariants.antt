use Rattle.std.proofs.Common.{◌≡◌, ◌++◌, drop, map}
use Rattle.go_ast.specs.Machine.{pack_cases}
use Rattle.go_ast.specs.Trees.{pack_statements}
use Rattle.go_ast.specs.Views.{stmt_of, clause_of}
use Rattle.go_scope.specs.Names.{used}
use Rattle.go_uses.specs.Uses.{outside, in_list, in_clauses}
use Rattle.go_uses.proofs.statements.+uses.Given as goal

-- what is found, and what is left outside of the names that are hidden
abbrev pub invariant-in_list-loop-statement : goal.invariant-in_list-loop-statement
invariant-in_list-loop-statement l =
    map used l.found.items ++ outside l.hidden (in_list (pack_statements (map stmt_of (drop l.statement-index l.statements)))) ≡ in_list (pack_statements (map stmt_of l.statements))

abbrev pub invariant-in_clauses-loop-clause : goal.invariant-in_clauses-loop-clause
invariant-in_clauses-loop-clause l = map used l.found.items ++ in_clauses (pack_cases (map clause_of (drop l.clause-index l.clauses))) ≡ in_clauses (pack_cases (map clause_of l.clauses))
