use Rattle.std.proofs.Common.{ap, arith}
use Rattle.go_ast.specs.Heights.{element_height}
use Rattle.go_ast.proofs.Rows.{value_seen}
use Rattle.go_pexpr.proofs.build.braced_value.Goals as goal

pub invariant_of-result : goal.invariant_of-result
invariant_of-result c = record { counted = omega (arith, ap element_height (value_seen c.args.place c.args.elements.items), c.args.elements.counted) }

pub returns-clause-value : goal.returns-clause-value
returns-clause-value c = value_seen c.args.place c.args.elements.items
