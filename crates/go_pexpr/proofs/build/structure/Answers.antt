use Rattle.std.proofs.Common.{ap, arith}
use Rattle.go_ast.specs.Heights.{type_height}
use Rattle.go_ast.proofs.Rows.{struct_seen}
use Rattle.go_pexpr.proofs.build.structure.Goals as goal

pub invariant_of-result : goal.invariant_of-result
invariant_of-result c = record { counted = omega (arith, ap type_height (struct_seen c.args.place c.args.fields.items), c.args.fields.counted); one = omega arith }

pub returns-clause-expr : goal.returns-clause-expr
returns-clause-expr c = struct_seen c.args.place c.args.fields.items
