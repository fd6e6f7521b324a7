use Rattle.std.proofs.Common.{ap, arith}
use Rattle.go_ast.specs.Heights.{height}
use Rattle.go_ast.proofs.Rows.{name_seen}
use Rattle.go_pexpr.proofs.build.name.Goals as goal

pub invariant_of-result : goal.invariant_of-result
invariant_of-result c = record { counted = omega (arith, ap height (name_seen c.args.place c.args.text)) }

pub returns-clause-expr : goal.returns-clause-expr
returns-clause-expr c = name_seen c.args.place c.args.text
