use Rattle.std.proofs.Common.{ap, arith}
use Rattle.go_ast.specs.Heights.{height}
use Rattle.go_ast.proofs.Rows.{parenthesized_seen}
use Rattle.go_pexpr.proofs.build.parenthesized.Goals as goal

pub invariant_of-result : goal.invariant_of-result
invariant_of-result c = record { counted = omega (arith, ap height (parenthesized_seen c.args.place c.in_ok-inner.inner c.args.inner.expr c.in_ok-inner.ensures.ok), c.args.inner.counted) }

pub returns-clause-expr : goal.returns-clause-expr
returns-clause-expr c = parenthesized_seen c.args.place c.in_ok-inner.inner c.args.inner.expr c.in_ok-inner.ensures.ok
