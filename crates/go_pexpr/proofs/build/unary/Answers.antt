use Rattle.std.proofs.Common.{ap, arith}
use Rattle.go_ast.specs.Heights.{height}
use Rattle.go_ast.proofs.Rows.{unary_seen}
use Rattle.go_pexpr.proofs.build.unary.Goals as goal

pub invariant_of-result : goal.invariant_of-result
invariant_of-result c = record { counted = omega (arith, ap height (unary_seen c.args.place c.args.operator c.in_ok-operand.operand c.args.operand.expr c.in_ok-operand.ensures.ok), c.args.operand.counted) }

pub returns-clause-expr : goal.returns-clause-expr
returns-clause-expr c = unary_seen c.args.place c.args.operator c.in_ok-operand.operand c.args.operand.expr c.in_ok-operand.ensures.ok
