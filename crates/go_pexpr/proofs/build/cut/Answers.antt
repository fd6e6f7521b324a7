use Rattle.std.proofs.Common.{ap, sym, ◌∙◌, arith}
use Rattle.go_ast.specs.Trees as trees
use Rattle.go_ast.specs.Heights.{height}
use Rattle.go_ast.specs.Views.{expr_of, bound_of}
use Rattle.go_ast.proofs.Rows.{cut_seen, placed}
use Rattle.go_pexpr.proofs.build.cut.Goals as goal

pub invariant_of-result : goal.invariant_of-result
invariant_of-result c = record { counted = omega (arith, ap height (cut_seen c.args.operand.expr.place c.in_ok-operand.operand c.args.low.bound c.args.high.bound c.args.operand.expr c.in_ok-operand.ensures.ok), c.args.operand.counted, c.args.low.counted, c.args.high.counted) }

pub returns-clause-expr : goal.returns-clause-expr
returns-clause-expr c = cut_seen c.args.operand.expr.place c.in_ok-operand.operand c.args.low.bound c.args.high.bound c.args.operand.expr c.in_ok-operand.ensures.ok ∙ ap (λ p. trees.cut p (expr_of c.args.operand.expr) (bound_of c.args.low.bound) (bound_of c.args.high.bound)) (sym (placed c.args.operand.expr))
