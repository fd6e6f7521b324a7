use Rattle.std.proofs.Common.{[], map}
use Rattle.go_typed.specs.Views.{as_expr}
use Rattle.go_expr.specs.Rules.{bound_verdict}
use Rattle.go_expr.proofs.Gathering.{Leads}
use Rattle.go_expr.proofs.slice.all_bounds.Given as goal

abbrev pub invariant-loop-bound : goal.invariant-loop-bound
invariant-loop-bound l =
    Leads as_expr l.all.values.items l.all.fault (map (bound_verdict l.length) (map as_expr l.bound-iterator.rest.items)) [] (map (bound_verdict l.length) (map as_expr l.fn.bounds.items))
