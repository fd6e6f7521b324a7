use Rattle.std.proofs.Common.{ap, arith}
use Rattle.go_ast.specs.Heights.{type_height}
use Rattle.go_ast.proofs.Rows.{qualified_seen}
use Rattle.go_pexpr.proofs.build.qualified.Goals as goal

pub invariant_of-result : goal.invariant_of-result
invariant_of-result c = record { counted = omega (arith, ap type_height (qualified_seen c.args.place c.args.package c.args.name)); one = omega arith }

pub returns-clause-expr : goal.returns-clause-expr
returns-clause-expr c = qualified_seen c.args.place c.args.package c.args.name
