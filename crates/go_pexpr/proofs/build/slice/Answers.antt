use Rattle.std.proofs.Common.{ap, arith}
use Rattle.go_ast.specs.Heights.{type_height}
use Rattle.go_ast.proofs.Rows.{slice_seen}
use Rattle.go_pexpr.proofs.build.slice.Goals as goal

pub invariant_of-result : goal.invariant_of-result
invariant_of-result c = record {
  counted = omega (arith, ap type_height (slice_seen c.args.place c.in_ok-item.item c.args.item.type_expr c.in_ok-item.ensures.ok), c.args.item.counted);
  one = omega arith;
}

pub returns-clause-expr : goal.returns-clause-expr
returns-clause-expr c = slice_seen c.args.place c.in_ok-item.item c.args.item.type_expr c.in_ok-item.ensures.ok
