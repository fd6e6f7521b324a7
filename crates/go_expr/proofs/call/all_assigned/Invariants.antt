use Rattle.std.proofs.Common.{[], drop, map}
use Rattle.std.specs.List.{zip}
use Rattle.go_types.specs.Views.{go_type}
use Rattle.go_typed.specs.Views.{as_expr}
use Rattle.go_expr.specs.Rules.{assigned}
use Rattle.go_expr.proofs.Gathering.{Leads}
use Rattle.go_expr.proofs.call.all_assigned.Given as goal

abbrev pub invariant-loop-of : goal.invariant-loop-of
invariant-loop-of l =
    Leads as_expr l.all.values.items l.all.fault (map (λ k. assigned k.0 k.1) (zip (map go_type (drop l.of-index l.parameters)) (map as_expr l.rest.rest.items))) []
    (map (λ k. assigned k.0 k.1) (zip (map go_type l.parameters) (map as_expr l.fn.arguments.items)))
