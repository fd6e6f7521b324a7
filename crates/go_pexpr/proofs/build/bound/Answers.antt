use Rattle.std.proofs.Common.{ap, sym, ◌∙◌}
use Rattle.go_ast.specs.Heights.{bound_height}
use Rattle.go_ast.proofs.Rows.{bound_seen}
use Rattle.go_pexpr.proofs.build.bound.Goals as goal

pub invariant_of-result : goal.invariant_of-result
invariant_of-result c = record { counted = c.args.at.counted ∙ sym (ap bound_height (bound_seen c.in_ok-at.at c.args.at.expr c.in_ok-at.ensures.ok)) }

pub returns-clause-bound : goal.returns-clause-bound
returns-clause-bound c = bound_seen c.in_ok-at.at c.args.at.expr c.in_ok-at.ensures.ok
