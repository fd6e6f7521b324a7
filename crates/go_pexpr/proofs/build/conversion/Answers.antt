use Rattle.std.proofs.Common.{ap, sym, ◌∙◌, arith}
use Rattle.go_ast.specs.Trees as trees
use Rattle.go_ast.specs.Heights.{height}
use Rattle.go_ast.specs.Views.{type_of, expr_of}
use Rattle.go_ast.proofs.Rows.{conversion_seen}
use Rattle.go_pexpr.proofs.Built.{type_placed}
use Rattle.go_pexpr.proofs.build.conversion.Goals as goal

pub invariant_of-result : goal.invariant_of-result
invariant_of-result c = record { counted = omega (arith, ap height (conversion_seen c.args.a.type_expr.place c.in_ok-to.to c.in_ok-to.value c.args.a.type_expr c.args.value.expr c.in_ok-to.ensures.first c.in_ok-to.ensures.second), c.args.a.counted, c.args.value.counted) }

pub returns-clause-expr : goal.returns-clause-expr
returns-clause-expr c = conversion_seen c.args.a.type_expr.place c.in_ok-to.to c.in_ok-to.value c.args.a.type_expr c.args.value.expr c.in_ok-to.ensures.first c.in_ok-to.ensures.second ∙ ap (λ p. trees.conversion p (type_of c.args.a.type_expr) (expr_of c.args.value.expr)) (sym (type_placed c.args.a.type_expr))
