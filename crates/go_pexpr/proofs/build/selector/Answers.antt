use Rattle.std.proofs.Common.{ap, sym, ◌∙◌, arith}
use Rattle.go_ast.specs.Trees as trees
use Rattle.go_ast.specs.Heights.{height}
use Rattle.go_ast.specs.Views.{expr_of}
use Rattle.go_ast.proofs.Rows.{selector_seen, placed}
use Rattle.go_pexpr.proofs.build.selector.Goals as goal

pub invariant_of-result : goal.invariant_of-result
invariant_of-result c = record { counted = omega (arith, ap height (selector_seen c.args.operand.expr.place c.in_ok-operand.operand c.args.name c.args.operand.expr c.in_ok-operand.ensures.ok), c.args.operand.counted) }

pub returns-clause-expr : goal.returns-clause-expr
returns-clause-expr c = selector_seen c.args.operand.expr.place c.in_ok-operand.operand c.args.name c.args.operand.expr c.in_ok-operand.ensures.ok ∙ ap (λ p. trees.selector p (expr_of c.args.operand.expr) c.args.name) (sym (placed c.args.operand.expr))
