use Rattle.std.proofs.Common.{ap, sym, ◌∙◌, arith}
use Rattle.go_ast.specs.Trees as trees
use Rattle.go_ast.specs.Heights.{height}
use Rattle.go_ast.specs.Views.{expr_of, exprs_in}
use Rattle.go_ast.proofs.Rows.{call_seen, placed}
use Rattle.go_pexpr.proofs.build.call.Goals as goal

pub invariant_of-result : goal.invariant_of-result
invariant_of-result c = record { counted = omega (arith, ap height (call_seen c.args.function.expr.place c.in_ok-function.function c.args.arguments.items c.args.function.expr c.in_ok-function.ensures.ok), c.args.function.counted, c.args.arguments.counted) }

pub returns-clause-expr : goal.returns-clause-expr
returns-clause-expr c = call_seen c.args.function.expr.place c.in_ok-function.function c.args.arguments.items c.args.function.expr c.in_ok-function.ensures.ok ∙ ap (λ p. trees.call p (expr_of c.args.function.expr) (exprs_in c.args.arguments.items.items)) (sym (placed c.args.function.expr))
