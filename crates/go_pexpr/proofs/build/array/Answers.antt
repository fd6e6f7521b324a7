use Rattle.std.proofs.Common.{ap, arith}
use Rattle.go_ast.specs.Heights.{type_height}
use Rattle.go_ast.proofs.Rows.{array_seen}
use Rattle.go_pexpr.proofs.build.array.Goals as goal

pub invariant_of-result : goal.invariant_of-result
invariant_of-result c = record { counted = omega (arith, ap type_height (array_seen c.args.place c.in_ok-length.length c.in_ok-length.item c.args.length.expr c.args.item.type_expr c.in_ok-length.ensures.first c.in_ok-length.ensures.second), c.args.length.counted, c.args.item.counted); one = omega arith }

pub returns-clause-expr : goal.returns-clause-expr
returns-clause-expr c = array_seen c.args.place c.in_ok-length.length c.in_ok-length.item c.args.length.expr c.args.item.type_expr c.in_ok-length.ensures.first c.in_ok-length.ensures.second
