use Rattle.std.proofs.Common.{ap, sym, ◌∙◌}
use Rattle.go_ast.specs.Trees as trees
use Rattle.go_ast.specs.Heights.{height}
use Rattle.go_ast.specs.Views.{type_of}
use Rattle.go_ast.proofs.Rows.{type_operand_seen}
use Rattle.go_pexpr.proofs.Built.{type_placed}
use Rattle.go_pexpr.proofs.build.type_operand.Goals as goal

pub invariant_of-result : goal.invariant_of-result
invariant_of-result c = record { counted = c.args.a.counted ∙ sym (ap height (type_operand_seen c.args.a.type_expr.place c.in_ok-a.a c.args.a.type_expr c.in_ok-a.ensures.ok)) }

pub returns-clause-expr : goal.returns-clause-expr
returns-clause-expr c = type_operand_seen c.args.a.type_expr.place c.in_ok-a.a c.args.a.type_expr c.in_ok-a.ensures.ok ∙ ap (λ p. trees.type_operand p (type_of c.args.a.type_expr)) (sym (type_placed c.args.a.type_expr))
