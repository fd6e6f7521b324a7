use Rattle.std.proofs.Common.{◌≡◌, ◌+◌, ◌*◌, ◌<◌, ◌≤◌, List, [], map, Option}
use Rattle.go_text.specs.declared.place.Place.{Place}
use Rattle.go_ast.specs.Trees as trees
use Rattle.go_ast.specs.Grammar.{Lexeme}
use Rattle.go_ast.specs.Machine.{Reader, Clause, list_start, statements, clause_start, run_parser}
use Rattle.go_ast.specs.Views.{stmt_of, clause_of}
use Rattle.go_pexpr.specs.Reads.{left, size}
use Rattle.go_pstmt.specs.Due.{clauses_behind}
use Rattle.go_pstmt.proofs.statement.+statement.Given as goal

abbrev pub decreases-block : goal.decreases-block
decreases-block l = 4 * size l.parser.now

abbrev pub decreases-conditional : goal.decreases-conditional
decreases-conditional l = 4 * size l.parser.now

abbrev pub decreases-otherwise : goal.decreases-otherwise
decreases-otherwise l = 4 * size l.parser.now

abbrev pub decreases-for_loop : goal.decreases-for_loop
decreases-for_loop l = 4 * size l.parser.now

abbrev pub decreases-switch : goal.decreases-switch
decreases-switch l = 4 * size l.parser.now

abbrev pub decreases-clauses : goal.decreases-clauses
decreases-clauses l = 4 * size l.parser.now

abbrev pub decreases-statement : goal.decreases-statement
decreases-statement l = 4 * size l.parser.now + 1

abbrev pub decreases-item : goal.decreases-item
decreases-item l = 4 * size l.parser.now + 2

abbrev pub decreases-clause_statements : goal.decreases-clause_statements
decreases-clause_statements l = 4 * size l.parser.now + 3

abbrev pub invariant-block-statements : goal.invariant-block-statements
invariant-block-statements l = record {
  reads : (next : List trees.Statement → Lexeme → Reader) →
      run_parser l.initial.parser.edition 250 (list_start (statements (l.fn.level + 1)) [] next) (left l.initial.parser) ≡ run_parser l.parser.edition 250 (list_start (statements (l.fn.level + 1)) (map stmt_of l.statements.items) next) (left l.parser);
  shorter : size l.parser < size l.fn.parser;
}

abbrev pub decreases-block-statements : goal.decreases-block-statements
decreases-block-statements l = size l.parser

abbrev pub invariant-clauses-clauses : goal.invariant-clauses-clauses
invariant-clauses-clauses l = record {
  reads : (next : trees.Cases → Lexeme → Reader) →
      run_parser l.fn.parser.edition 250 (clauses_behind l.fn.level [] next) (left l.fn.parser) ≡ run_parser l.parser.edition 250 (clauses_behind l.fn.level (map clause_of l.clauses.items) next) (left l.parser);
  shorter : size l.parser ≤ size l.fn.parser;
}

abbrev pub decreases-clauses-clauses : goal.decreases-clauses-clauses
decreases-clauses-clauses l = size l.parser

abbrev pub invariant-clause_statements-statements : goal.invariant-clause_statements-statements
invariant-clause_statements-statements l = record {
  reads : (done : List Clause) (p : Place) (values : Option trees.ExpressionList) (next : trees.Cases → Lexeme → Reader) →
      run_parser l.fn.parser.edition 250 (clause_start l.fn.level done p values [] next) (left l.fn.parser) ≡ run_parser l.parser.edition 250 (clause_start l.fn.level done p values (map stmt_of l.statements.items) next) (left l.parser);
  shorter : size l.parser ≤ size l.fn.parser;
}

abbrev pub decreases-clause_statements-statements : goal.decreases-clause_statements-statements
decreases-clause_statements-statements l = size l.parser
