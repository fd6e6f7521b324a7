use Rattle.std.proofs.Common.{[], map}
use Rattle.go_types.specs.Views.{go_type}
use Rattle.go_typed.specs.Views.{as_expr}
use Rattle.go_expr.specs.Rules.{assigned}
use Rattle.go_expr.proofs.Gathering.{Leads}
use Rattle.go_expr.proofs.slice.all_taken.Given as goal

abbrev pub invariant-loop-argument : goal.invariant-loop-argument
invariant-loop-argument l =
    Leads as_expr l.all.values.items l.all.fault (map (assigned (go_type l.of)) (map as_expr l.argument-iterator.rest.items)) []
    (map (assigned (go_type l.of)) (map as_expr l.fn.arguments.rest.items))
