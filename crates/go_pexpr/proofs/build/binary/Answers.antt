use Rattle.std.proofs.Common.{ap, sym, ◌∙◌, arith}
use Rattle.go_ast.specs.Trees as trees
use Rattle.go_ast.specs.Heights.{height}
use Rattle.go_ast.specs.Views.{expr_of}
use Rattle.go_ast.proofs.Rows.{binary_seen, placed}
use Rattle.go_pexpr.proofs.build.binary.Goals as goal

pub invariant_of-result : goal.invariant_of-result
invariant_of-result c = record { counted = omega (arith, ap height (binary_seen c.args.left.expr.place c.args.operator c.in_ok-left.left c.in_ok-left.right c.args.left.expr c.args.right.expr c.in_ok-left.ensures.first c.in_ok-left.ensures.second), c.args.left.counted, c.args.right.counted) }

pub returns-clause-expr : goal.returns-clause-expr
returns-clause-expr c = binary_seen c.args.left.expr.place c.args.operator c.in_ok-left.left c.in_ok-left.right c.args.left.expr c.args.right.expr c.in_ok-left.ensures.first c.in_ok-left.ensures.second ∙ ap (λ p. trees.binary p c.args.operator (expr_of c.args.left.expr) (expr_of c.args.right.expr)) (sym (placed c.args.left.expr))
