use Rattle.std.proofs.Common.{◌≡◌, ◌≤◌, ◌<◌, [], ◌∷◌, length, map}
use Rattle.go_ast.specs.Trees as trees
use Rattle.go_ast.specs.Machine.{Reader, expr, lefts, run_parser}
use Rattle.go_ast.specs.Views.{expr_of}
use Rattle.go_pexpr.specs.Reads.{left, size}
use Rattle.go_pstmt.specs.Statements.{position_of, is_bare, beginning}
use Rattle.go_pstmt.proofs.simple.left_sides.Given as goal

abbrev pub invariant-sides : goal.invariant-sides
invariant-sides l = record {
  reads : (next : trees.Simple → Reader) (alone : trees.Expression → Reader) (range : trees.Name → trees.Expression → Reader) →
      run_parser l.fn.parser.edition 250 (expr 5 (is_bare l.fn.position) l.fn.level (beginning l.fn.position) (λ e. lefts (position_of l.fn.position) (is_bare l.fn.position) l.fn.level (e ∷ []) next alone range)) (left l.fn.parser)
      ≡ run_parser l.parser.edition 250 (lefts (position_of l.fn.position) (is_bare l.fn.position) l.fn.level (map expr_of l.sides.items) next alone range) (left l.parser);
  some : 1 ≤ length l.sides.items;
  shorter : size l.parser < size l.fn.parser;
}

abbrev pub decreases-sides : goal.decreases-sides
decreases-sides l = size l.parser
