use Rattle.std.proofs.Common.{ap, sym, ◌∙◌}
use Rattle.go_ast.specs.Heights.{element_height}
use Rattle.go_ast.proofs.Rows.{expression_seen}
use Rattle.go_pexpr.proofs.build.expression_value.Goals as goal

pub invariant_of-result : goal.invariant_of-result
invariant_of-result c = record { counted = c.args.expr.counted ∙ sym (ap element_height (expression_seen c.args.expr.expr)) }

pub returns-clause-value : goal.returns-clause-value
returns-clause-value c = expression_seen c.args.expr.expr
