use Rattle.std.proofs.Common.{ap, sym, ◌∙◌, arith}
use Rattle.go_ast.specs.Trees as trees
use Rattle.go_ast.specs.Heights.{height}
use Rattle.go_ast.specs.Views.{expr_of}
use Rattle.go_ast.proofs.Rows.{index_seen, placed}
use Rattle.go_pexpr.proofs.build.index.Goals as goal

pub invariant_of-result : goal.invariant_of-result
invariant_of-result c = record { counted = omega (arith, ap height (index_seen c.args.operand.expr.place c.in_ok-operand.operand c.in_ok-operand.at c.args.operand.expr c.args.at.expr c.in_ok-operand.ensures.first c.in_ok-operand.ensures.second), c.args.operand.counted, c.args.at.counted) }

pub returns-clause-expr : goal.returns-clause-expr
returns-clause-expr c = index_seen c.args.operand.expr.place c.in_ok-operand.operand c.in_ok-operand.at c.args.operand.expr c.args.at.expr c.in_ok-operand.ensures.first c.in_ok-operand.ensures.second ∙ ap (λ p. trees.index p (expr_of c.args.operand.expr) (expr_of c.args.at.expr)) (sym (placed c.args.operand.expr))
